-- Only opening and closing a region touch the regions.
use Rattle.std.proofs.Common.{◌≡◌, ℕ, zero, suc, ◌+◌, Bool, true, false, cond, List, length, is_some, Some, None, Option, refl, sym, ap, ◌∙◌, arith}
use Rattle.std.proofs.lemmas.Bool.{false≢true}
use Rattle.isa.specs.Isa.{Isa}
use Rattle.model.specs.declared.rows.Region.{Region}
use Rattle.model.specs.Labels.{bound_count}
use Rattle.model.specs.State.{State}
use Rattle.model.specs.Simplify.{round, rounds, all_rounds, forgotten, simplified}
use Rattle.model.specs.Calls.{bind}
use Rattle.model.specs.Steps as model
use Rattle.replay.specs.declared.calls.Call.{Call}
use Rattle.replay.specs.declared.calls.Call.TheVariants.{GetLabel, BindLabel, PutData, AlignTo, UseLabelAtOffset, AddUncondBranch, AddCondBranch, DeferTrap, RegisterConstant, GetLabelForConstant, OptimizeBranches, StartPatchable, EndPatchable, CurOffset, ResolveLabelOffset, IslandNeeded}
use Rattle.replay.specs.Calls.{call_of, is_plain}
use Rattle.replay.specs.Tokens.{Held}
use Rattle.table_calls.specs.declared.tokens.OpenPatchRegion.{OpenPatchRegion}

-- the open region and the closed ones
abbrev regions_of : State → Option ℕ × List Region
regions_of s = (s.opened, s.regions)

either : {X : Type 0} (P : X → Type 0) (b : Bool) (x y : X) → P x → P y → P (cond b x y)
either P true x y p q = p
either P false x y p q = q

round_keeps : (s : State) → regions_of (round s).state ≡ regions_of s
round_keeps s = grind arith

rounds_keep : (n : ℕ) (s : State) → regions_of (rounds n s).1 ≡ regions_of s
rounds_keep zero s = refl
rounds_keep (suc n) s = either (λ (p : ℕ × State). regions_of p.1 ≡ regions_of s) (round s).again _ _ (rounds_keep n (round s).state ∙ round_keeps s) refl

forgotten_keeps : (s : State) → regions_of (forgotten s) ≡ regions_of s
forgotten_keeps s = grind arith

simplified_keeps : (skip : Bool) (s : State) → regions_of (simplified skip s) ≡ regions_of s
simplified_keeps true s = refl
simplified_keeps false s = forgotten_keeps (all_rounds s).1 ∙ rounds_keep (length s.branches + bound_count s.labels) s

keeps : (i : Isa) (s : State) (c : Call) → is_plain c ≡ true → regions_of (model.step i s (call_of c)).1 ≡ regions_of s
keeps i s GetLabel p = grind arith
keeps i s (BindLabel l skip) p = let k = simplified_keeps skip (bind s l) in grind arith
keeps i s (PutData trap bytes) p = grind arith
keeps i s (AlignTo n) p = grind arith
keeps i s (UseLabelAtOffset l k bytes) p = grind arith
keeps i s (AddUncondBranch l k bytes) p = grind arith
keeps i s (AddCondBranch l k bytes inverted) p = grind arith
keeps i s (DeferTrap trap) p = grind arith
keeps i s (RegisterConstant size align) p = grind arith
keeps i s (GetLabelForConstant n) p = grind arith
keeps i s (OptimizeBranches skip) p = let k = simplified_keeps skip s in grind arith
keeps i s StartPatchable p = absurd (false≢true p)
keeps i s EndPatchable p = absurd (false≢true p)
keeps i s CurOffset p = refl
keeps i s (ResolveLabelOffset l) p = refl
keeps i s (IslandNeeded distance) p = refl

-- the token fits tables with the same regions
held_same : (token : Option OpenPatchRegion) (s t : State) → regions_of t ≡ regions_of s → Held token s → Held token t
held_same None s t e h = ap (λ (p : Option ℕ × List Region). p.0) e ∙ h
held_same (Some x) s t e h = (ap (λ (p : Option ℕ × List Region). is_some p.0) e ∙ h.0, h.1 ∙ sym (ap (λ (p : Option ℕ × List Region). length p.1) e))

-- who holds the token before a plain call holds it afterwards
pub held_after : (token : Option OpenPatchRegion) (i : Isa) (s t : State) (c : Call) (a : model.Answer) → is_plain c ≡ true → (a, t) ≡ model.step i s (call_of c) → Held token s → Held token t
held_after token i s t c a p e h = held_same token s t (ap (λ (x : model.Answer × State). regions_of x.1) e ∙ keeps i s c p) h
