-- What a report on one use says, by the meaning of the set.
use Rattle.std.specs.Prelude.{◌≡◌, ℕ, true, false, not, List, ℤ, IfSome, Some, None, Ok, Err, vec_items, Option, Result}
use Rattle.std.specs.Option.{option_map}
use Rattle.isa.specs.declared.jumps.Jump.TheVariants.{Branch}
use Rattle.isa.specs.declared.jumps.Role.{Role}
use Rattle.isa.specs.declared.jumps.Role.TheVariants.{Unconditional, Conditional}
use Rattle.isa.specs.Isa.{Isa, Patchable, Veneer}
use Rattle.isa.specs.Patches.{TurnedAway}
use Rattle.jump_report.specs.declared.report.JumpReport.{JumpReport}
use Rattle.jump_report.specs.declared.report.VeneerReport.{VeneerReport}
use Rattle.jump_report.specs.declared.report.ReportError.{ReportError}
use Rattle.jump_report.specs.declared.report.ReportError.TheVariants.{OutOfMemory, Refused}

-- the bytes with the other sense: a conditional has them, and nothing else does
abbrev pub other_sense : Isa → ℕ → List ℕ → Option Role → Option (List ℕ)
other_sense i k b None = None
other_sense i k b (Some Unconditional) = None
other_sense i k b (Some (Conditional c s)) = Some (i.inverted k b)

-- a role with the other sense
abbrev pub turned : Role → Role
turned Unconditional = Unconditional
turned (Conditional c s) = Conditional c (not s)

-- the parts of a veneer
pub record Parts (v : Veneer) (code : List ℕ) (place own : ℕ) : Type 0 where
  pub same_code : code ≡ v.code
  pub same_place : place ≡ v.place
  pub same_own : own ≡ v.own

-- a veneer is told of exactly where the kind has one
abbrev pub VeneerTold : Isa → ℕ → Option VeneerReport → Type 0
VeneerTold i k None = i.supports k ≡ false
VeneerTold i k (Some r) = (i.supports k ≡ true) × Parts (i.veneer k) (vec_items r.code) r.place r.own

-- what is told of the bytes p of kind k, each part by the meaning
pub record Told (i : Isa) (k : ℕ) (p : List ℕ) (r : JumpReport) : Type 0 where
  pub patched : vec_items r.patched ≡ p
  pub reads : r.reads ≡ i.reads k p
  pub role : r.role ≡ i.role k p
  pub inverted : option_map vec_items r.inverted ≡ other_sense i k p (i.role k p)
  pub found : r.found ≡ i.find p 0
  pub veneer : VeneerTold i k r.veneer

-- The bytes v jump by d as bytes of role r do, but in the other sense.
pub record Turned (i : Isa) (k : ℕ) (d : ℤ) (r : Option Role) (v : List ℕ) : Type 0 where
  pub role : i.role k v ≡ option_map turned r
  pub reads : i.reads k v ≡ d

-- The report on the bytes b of kind k that were given the displacement d.
pub record JumpSet (i : Isa) (k : ℕ) (b : List ℕ) (d : ℤ) (r : JumpReport) : Type 0 where
  -- the displacement can be written, and it is told of the bytes that hold it
  pub could : Patchable i k b d
  pub told : Told i k (i.patched k b d) r
  -- they read the displacement
  pub reads : r.reads ≡ d
  -- they do what the bytes did before
  pub role : r.role ≡ i.role k b
  -- a branch is found as what it is
  pub finds : IfSome r.role (λ x. r.found ≡ Some (Branch x (i.size k) d))
  -- the inverted bytes test the same, jump in the other case, and read the displacement too
  pub inverted : IfSome r.inverted (λ v. Turned i k d r.role (vec_items v))

-- A report, or why there is none: the first thing that is wrong with the displacement.
abbrev pub Answered : Isa → ℕ → List ℕ → ℤ → Result JumpReport ReportError → Type 0
Answered i k b d (Ok r) = JumpSet i k b d r
Answered i k b d (Err OutOfMemory) = Unit {0}
Answered i k b d (Err (Refused e)) = TurnedAway i k b d e
