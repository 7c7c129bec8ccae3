-- Finishing: islands while anything waits or is pending, then the bytes of the constants.
use Rattle.std.specs.Prelude.{ℕ, zero, suc, ◌+◌, max, Bool, true, cond, not, List, [], ◌∷◌, ◌++◌, length, take, drop, Some, None, Ok, Err, sum_by, Option, Result, ◌==◌, nat_lt}
use Rattle.isa.specs.Isa.{Isa}
use Rattle.model.specs.declared.rows.Fixup.{Fixup}
use Rattle.model.specs.declared.rows.Constant.{Constant}
use Rattle.model.specs.declared.rows.PlacedConstant.{PlacedConstant}
use Rattle.model.specs.declared.refusals.Refusal.{Refusal}
use Rattle.model.specs.declared.refusals.Refusal.TheVariants.{BrokenOff, RegionOpen, UnboundLabel, BadPool}
use Rattle.model.specs.State.{State, is_open, with_code, with_broken}
use Rattle.model.specs.Code.{overwritten}
use Rattle.model.specs.Labels.{is_lost}
use Rattle.model.specs.Fixups.{waiting}
use Rattle.model.specs.Constants.{constant_row}
use Rattle.model.specs.Progress.{Progress, reached, then}
use Rattle.model.specs.Islands.{island}

-- the fixup at the lower offset
abbrev pub lower : Fixup → Option Fixup → Option Fixup
lower f None = Some f
lower f (Some g) = cond (nat_lt f.offset g.offset) (Some f) (Some g)

-- of the fixups whose label nothing will bind, the one at the lowest offset
abbrev pub first_lost : State → List Fixup → Option Fixup
first_lost s [] = None
first_lost s (f ∷ fs) = cond (is_lost s.labels f.label) (lower f (first_lost s fs)) (first_lost s fs)

-- refused for such a fixup, else for what comes after
abbrev pub unless_lost : Option Fixup → Option Refusal → Option Refusal
unless_lost None otherwise = otherwise
unless_lost (Some f) otherwise = Some (UnboundLabel f.label)

-- the length of constants joined
abbrev pub total_size : List Constant → ℕ
total_size cs = sum_by (λ (c : Constant). c.size) cs

-- why finishing is refused before any island
abbrev pub unfit : State → List ℕ → Option Refusal
unfit s pool =
    cond s.broken (Some BrokenOff)
    (cond (is_open s) (Some RegionOpen)
    (unless_lost (first_lost s (s.fresh ++ s.held))
    (cond (not (length pool == total_size s.constants)) (Some BadPool)
    None)))

-- something waits or is pending
abbrev pub is_busy : State → Bool
is_busy s = nat_lt 0 (waiting s + length s.deferred + length s.requested)

-- the longest chain of veneers of the first kinds
abbrev pub longest_below : Isa → ℕ → ℕ
longest_below i zero = 0
longest_below i (suc k) = max (i.chain k) (longest_below i k)

-- and of all kinds
abbrev pub longest_chain : Isa → ℕ
longest_chain i = longest_below i i.kinds

-- at most so many islands
abbrev pub islands_within : Isa → Bool → ℕ → State → Progress
islands_within i force zero s = reached s
islands_within i force (suc n) s =
    let more = then (island i force 0 s) (λ r. islands_within i force n r) in
    cond (is_busy s) more (reached s)

-- The first island places every label that is waited for, the second handles every fixup, and each one after it
-- handles the veneers of the one before, whose chains are shorter: there are at most two more than the longest chain.
abbrev pub all_islands : Isa → Bool → State → Progress
all_islands i force s = islands_within i force (2 + longest_chain i) s

-- the bytes of a constant in the pool, in which all are joined by number
abbrev pub pooled : State → List ℕ → ℕ → List ℕ
pooled s pool n = take (constant_row s n).size (drop (total_size (take n s.constants)) pool)

-- the code with each placed constant's bytes
abbrev pub filled : State → List ℕ → List PlacedConstant → List ℕ → List ℕ
filled s pool [] code = code
filled s pool (p ∷ ps) code = filled s pool ps (overwritten code p.offset (pooled s pool p.number))

-- the pool is copied, unless an island failed, and the answer is how many islands there were
abbrev pub concluded : Option Refusal → Progress → List ℕ → Result ℕ Refusal × State
concluded None p pool = (Ok p.islands, with_code p.state (filled p.state pool p.state.placed p.state.code))
concluded (Some e) p pool = (Err e, with_broken p.state true)

-- finishing, unless it is refused before any island
abbrev pub finish_unless : Option Refusal → Isa → State → Bool → List ℕ → Result ℕ Refusal × State
finish_unless None i s force pool = let p = all_islands i force s in concluded p.failed p pool
finish_unless (Some e) i s force pool = (Err e, s)

-- Islands of distance 0 are written while anything waits or is pending, with veneers forced or not, and the pool is copied
-- into the places of the constants.
abbrev pub finish : Isa → State → Bool → List ℕ → Result ℕ Refusal × State
finish i s force pool = finish_unless (unfit s pool) i s force pool
