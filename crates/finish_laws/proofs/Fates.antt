-- What an island does with a fixup.
use Rattle.std.proofs.Common.{◌≡◌, ℕ, ◌+◌, ◌-◌, Bool, true, not, ◌&&◌, ltb, leb, length, Some, None, Option, Ok, Err, Result}
use Rattle.std.proofs.lemmas.Bool.{cond_both, not-false}
use Rattle.isa.specs.Isa.{Isa}
use Rattle.model.specs.declared.rows.Fixup.{Fixup}
use Rattle.model.specs.declared.rows.Fate.{Fate}
use Rattle.model.specs.declared.refusals.Refusal.{Refusal}
use Rattle.model.specs.declared.rows.Fate.TheVariants.{ToLabel, ToVeneer}
use Rattle.model.specs.Capacities.{max_code}
use Rattle.model.specs.State.{State, cur_offset}
use Rattle.model.specs.Code.{aligned}
use Rattle.model.specs.Labels.{place_of}
use Rattle.model.specs.Fates.{veneer_at, fate_at, fate}

-- a fixup is led to a veneer only where its kind has one
abbrev pub Supported : Isa → Fixup → Result Fate Refusal → Type 0
Supported i f (Ok (ToLabel place)) = Unit {0}
Supported i f (Ok (ToVeneer at)) = i.supports f.kind ≡ true
Supported i f (Err e) = Unit {0}

veneer_at_supported : (i : Isa) (end : ℕ) (f : Fixup) → Supported i f (veneer_at i end f)
veneer_at_supported i end f =
    let at = aligned i.align end in
    cond_both (not (i.supports f.kind)) _ _ (Supported i f) (λ _. tt) (λ e.
    cond_both (ltb (i.max_pos f.kind) (at - f.offset)) _ _ (Supported i f) (λ _. tt) (λ _.
    cond_both (ltb max_code (at + length (i.veneer f.kind).code)) _ _ (Supported i f) (λ _. tt) (λ _. not-false _ e)))

fate_at_supported : (i : Isa) (force : Bool) (end : ℕ) (o : Option ℕ) (f : Fixup) → Supported i f (fate_at i force end o f)
fate_at_supported i force end None f = veneer_at_supported i end f
fate_at_supported i force end (Some place) f =
    cond_both (ltb (i.max_pos f.kind) (place - f.offset)) _ _ (Supported i f) (λ _. tt) (λ _.
    cond_both (leb (f.offset - place) (i.max_neg f.kind) && not (force && i.supports f.kind)) _ _ (Supported i f) (λ _. tt) (λ _. veneer_at_supported i end f))

pub fate_supported : (i : Isa) (force : Bool) (s : State) (f : Fixup) → Supported i f (fate i force s f)
fate_supported i force s f = fate_at_supported i force (cur_offset s) (place_of s.labels f.label) f
