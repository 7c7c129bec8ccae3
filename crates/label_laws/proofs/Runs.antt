-- The laws of every list of calls.
use Rattle.std.proofs.Common.{◌≡◌, ℕ, ◌<◌, ◌≤◌, false, ◌⊎◌, List, [], ◌∷◌, ◌++◌, length, sym, refl, ap, ◌∙◌, subst, inl, inr, arith}
use Rattle.std.proofs.lemmas.Bool.{cases_lt}
use Rattle.std.proofs.lemmas.List.{get_or_past}
use Rattle.std.proofs.lemmas.Option.{none-some}
use Rattle.isa.specs.Isa.{Isa}
use Rattle.model.specs.declared.rows.Label.{Label}
use Rattle.model.specs.declared.rows.Place.TheVariants.{At}
use Rattle.model.specs.State.{empty}
use Rattle.model.specs.Labels.{offset_in, unbound, label_row}
use Rattle.model.specs.Steps.{Call}
use Rattle.model.specs.Runs.{Run, begun, next, run_from, run}
use Rattle.model.proofs.Cases.{either}
use Rattle.label_laws.specs.Leads.{Ends, here}
use Rattle.label_laws.specs.Moves.{NeverForward, Later}
use Rattle.label_laws.specs.Sound.{Sound, Goes}
use Rattle.label_laws.specs.Laws.{labels_after}
use Rattle.label_laws.proofs.Leads.{ends}
use Rattle.label_laws.proofs.Orderly.{orderly_within}
use Rattle.label_laws.proofs.Goes.{goes_same, goes_on}
use Rattle.label_laws.proofs.Calls.{step_goes}

-- a run and a longer one
record Runs (r q : Run) : Type 0 where
  holds : Goes r.state q.state

next_runs : (i : Isa) (r : Run) (c : Call) → Sound r.state → Runs r (next i r c)
next_runs i r c k = either (Runs r) r.finished _ _ (record { holds = goes_same r.state k }) (record { holds = step_goes i r.state c k })

pub run_goes : (i : Isa) (r : Run) (cs : List Call) → Sound r.state → Goes r.state (run_from i r cs).state
run_goes i r [] k = goes_same r.state k
run_goes i r (c ∷ cs) k =
    let g : Goes r.state (next i r c).state = (next_runs i r c k).holds in
    goes_on r.state (next i r c).state _ g (run_goes i (next i r c) cs g.sound)

-- a new buffer
pub empty_sound : Sound empty
empty_sound = record { labels = record { few = omega arith; rows = tt; ends = λ l. (l, here refl) }; branches = tt; fresh = tt; held = tt; waits = tt; apart = tt }

-- after every list of calls
pub run_sound : (i : Isa) (cs : List Call) → Sound (run i cs).state
run_sound i cs = (run_goes i begun cs empty_sound).sound

-- one list of calls after another
pub run-append : (i : Isa) (r : Run) (cs ds : List Call) → run_from i r (cs ++ ds) ≡ run_from i (run_from i r cs) ds
run-append i r [] ds = refl
run-append i r (c ∷ cs) ds = run-append i (next i r c) cs ds

pub run-later : (i : Isa) (cs ds : List Call) → Later (labels_after i cs) (labels_after i (cs ++ ds))
run-later i cs ds = subst (λ (r : Run). Later (labels_after i cs) r.state.labels) (sym (run-append i begun cs ds)) (run_goes i (run i cs) ds (run_sound i cs)).later

-- the laws
pub aliases_end : (i : Isa) (cs : List Call) (l : ℕ) → l < length (labels_after i cs) → Ends (labels_after i cs) l
aliases_end i cs l h = let o = (run_sound i cs).labels in ends (labels_after i cs) (orderly_within (labels_after i cs) o) h (o.ends l).1

pub never_forward : (i : Isa) (cs ds : List Call) (l from : ℕ) → (label_row (labels_after i cs) l).place ≡ At from → NeverForward (label_row (labels_after i cs) l) (label_row (labels_after i (cs ++ ds)) l)
never_forward i cs ds l from h = by (cases_lt l (length (labels_after i cs)))
  where
    by : (l < length (labels_after i cs)) ⊎ (length (labels_after i cs) ≤ l) → NeverForward (label_row (labels_after i cs) l) (label_row (labels_after i (cs ++ ds)) l)
    by (inl less) = ((run-later i cs ds).moves l less).falls from h
    by (inr past) = absurd (none-some from (ap (λ (x : Label). offset_in x.place) (sym (get_or_past (labels_after i cs) l (unbound false) past)) ∙ ap offset_in h))
