-- The laws of every island, after any list of calls.
use Rattle.std.proofs.Common.{◌≡◌, ℕ, Bool, false, ◌⊎◌, List, ap, inl, inr, arith}
use Rattle.isa.specs.Isa.{Isa}
use Rattle.isa.specs.Laws.{Lawful}
use Rattle.model.specs.declared.rows.Fixup.{Fixup}
use Rattle.model.specs.State.{State}
use Rattle.model.specs.Islands.{island}
use Rattle.model.specs.Steps.{Call}
use Rattle.model.specs.Runs.{run}
use Rattle.model.proofs.Orderly.{run_orderly}
use Rattle.model.proofs.Patched.{island_leaves}
use Rattle.island_laws.specs.Waiting.{Waits, use_bytes, StillWaits, Outcome, OfVeneer, InFieldsOnly}
use Rattle.island_laws.specs.Laws.{Accounted, OfEveryIsland}
use Rattle.island_laws.proofs.Since.{Start, Since, not_itself}
use Rattle.island_laws.proofs.Islands.{Writing, start_of, island_since}

outcome_outside : (i : Isa) (s r : State) (f : Fixup) → Outcome i s r f → i.outside f.kind (use_bytes i r f) ≡ i.outside f.kind (use_bytes i s f)
outcome_outside i s r f (inl a) = ap (i.outside f.kind) a.same
outcome_outside i s r f (inr (inl a)) = a.patched.outside
outcome_outside i s r f (inr (inr a)) = a.1.patched.outside

-- a use that waits was not patched
still_waits : (i : Isa) (s r : State) (f : Fixup) → Start i s → Waits s f → Waits r f → Outcome i s r f → StillWaits i s r f
still_waits i s r f z w v (inl a) = a
still_waits i s r f z w v (inr (inl a)) = absurd (not_itself z f w (a.patched.alone f v))
still_waits i s r f z w v (inr (inr a)) = absurd (not_itself z f w (a.1.patched.alone f v))

origin : (i : Isa) (s r : State) (g : Fixup) → Start i s → Since i s r → Waits r g → Waits s g ⊎ OfVeneer i s r g → (Waits s g × StillWaits i s r g) ⊎ OfVeneer i s r g
origin i s r g z k v (inl w) = inl (w, still_waits i s r g z w v (k.each g w))
origin i s r g z k v (inr o) = inr o

after_island : (i : Isa) → Lawful i → (calls : List Call) → (run i calls).finished ≡ false → (force : Bool) (distance : ℕ) → let s = (run i calls).state in Writing i s (island i force distance s).state
after_island i y calls building force distance = island_since i y (run i calls).state (run_orderly i y calls building) force distance

pub in_fields_only : OfEveryIsland (λ i s p. InFieldsOnly i s p.state)
in_fields_only i y calls building force distance =
    let k = (after_island i y calls building force distance).since in
    record { longer = k.longer; bytes = k.bytes; outside = λ f w. outcome_outside i _ _ f (k.each f w) }

pub patched_uses_read : OfEveryIsland (λ i s p. (f : Fixup) → Waits s f → Outcome i s p.state f)
patched_uses_read i y calls building force distance = (after_island i y calls building force distance).since.each

pub accounted : OfEveryIsland Accounted
accounted i y calls building force distance =
    let s = (run i calls).state in
    let a = after_island i y calls building force distance in
    let z = start_of i y s (run_orderly i y calls building) in
    record {
      each = λ g v. origin i s _ g z a.since v (a.since.waiting g v);
      even = omega (arith, (island_leaves i force distance s).even);
      uses = a.orderly.uses;
    }
