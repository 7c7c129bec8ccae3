-- Lists of calls that finish nothing: where they come, and what one call more adds.
use Rattle.std.proofs.Common.{◌≡◌, ℕ, ◌+◌, ◌-◌, ◌≤◌, false, cond, List, [], ◌∷◌, ◌++◌, map, reverse, length, Ok, Err, Result, sym, refl, ap, ◌∙◌, arith, length-append}
use mathlib.Core.List.{reverse-cons}
use Rattle.std.proofs.lemmas.List.{map-append}
use Rattle.std.proofs.lemmas.List.Sums.{sum_by-append}
use Rattle.std.specs.List.{zip, sum_by}
use Rattle.isa.specs.Isa.{Isa}
use Rattle.model.specs.declared.refusals.Refusal.{Refusal}
use Rattle.model.specs.Fixups.{waiting}
use Rattle.model.specs.Runs.{Run, run, run_from, begun, next, ends}
use Rattle.model.specs.State.{State}
use Rattle.model.specs.Steps as model
use Rattle.model.specs.Tallies.{Tally, tally_of, if_granted, tally}
use Rattle.model.specs.Calls.{bind_label, use_label_at_offset, add_uncond_branch, add_cond_branch, optimize_branches}
use Rattle.model.proofs.Balance.{run_accounted}
use Rattle.replay.specs.declared.calls.Reply.{Reply}
use Rattle.replay.specs.declared.calls.Reply.TheVariants.{Granted, Number, Closed, YesNo}
use Rattle.replay.specs.declared.calls.Call.{Call}
use Rattle.replay.specs.declared.calls.Call.TheVariants.{GetLabel, BindLabel, PutData, AlignTo, UseLabelAtOffset, AddUncondBranch, AddCondBranch, DeferTrap, RegisterConstant, GetLabelForConstant, OptimizeBranches, StartPatchable, EndPatchable, CurOffset, ResolveLabelOffset, IslandNeeded}
use Rattle.replay.specs.Accepted.{is_number, is_accepted, accepted_among}
use Rattle.replay.specs.Calls.{answer_of, call_of}

-- a call that made and patched nothing counts so many uses accepted
record Accepts (t : Tally) (n : ℕ) : Type 0 where
  pub accepted : t.accepted ≡ n
  pub made : t.made ≡ 0
  pub patched : t.patched ≡ 0

none_accepted : (n : ℕ) → Accepts (tally_of 0 0 0 n) 0
none_accepted n = record { accepted = refl; made = refl; patched = refl }

of_use : (x : Result ℕ Refusal) → let a = model.answer_of model.Number x in Accepts (if_granted a (tally_of 1 0 0 0)) (cond (is_number a) 1 0)
of_use (Ok n) = record { accepted = refl; made = refl; patched = refl }
of_use (Err e) = none_accepted 0

of_cuts : (x : Result (Unit {0}) Refusal) (n : ℕ) → Accepts (if_granted (model.answer_of model.nothing_more x) (tally_of 0 0 0 n)) 0
of_cuts (Ok x) n = none_accepted n
of_cuts (Err e) n = none_accepted 0

accepts : (i : Isa) (s : State) (c : Call) → Accepts (tally i s (call_of c)) (cond (is_accepted (call_of c) (model.step i s (call_of c)).0) 1 0)
accepts i s GetLabel = none_accepted 0
accepts i s (BindLabel l skip) = of_cuts (bind_label i s l skip).0 _
accepts i s (PutData trap bytes) = none_accepted 0
accepts i s (AlignTo n) = none_accepted 0
accepts i s (UseLabelAtOffset l k bytes) = of_use (use_label_at_offset i s l k bytes.now).0
accepts i s (AddUncondBranch l k bytes) = of_use (add_uncond_branch i s l k bytes.now).0
accepts i s (AddCondBranch l k bytes inverted) = of_use (add_cond_branch i s l k bytes.now inverted.now).0
accepts i s (DeferTrap trap) = none_accepted 0
accepts i s (RegisterConstant size align) = none_accepted 0
accepts i s (GetLabelForConstant n) = none_accepted 0
accepts i s (OptimizeBranches skip) = of_cuts (optimize_branches s skip).0 _
accepts i s StartPatchable = none_accepted 0
accepts i s EndPatchable = none_accepted 0
accepts i s CurOffset = none_accepted 0
accepts i s (ResolveLabelOffset l) = none_accepted 0
accepts i s (IslandNeeded distance) = none_accepted 0

goes_on : (a : Result Reply Refusal) → ends (answer_of a) ≡ false
goes_on (Ok Granted) = refl
goes_on (Ok (Number n)) = refl
goes_on (Ok (Closed r)) = refl
goes_on (Ok (YesNo b)) = refl
goes_on (Err e) = refl

-- a list of calls on a new buffer of the meaning i got these answers and came to these tables
pub record Follows (i : Isa) (calls : List Call) (answers : List (Result Reply Refusal)) (s : State) : Type 0 where
  pub len : length answers ≡ length calls
  pub tables : s ≡ (run i (map call_of calls)).state
  pub answered : map answer_of answers ≡ reverse (run i (map call_of calls)).answers
  pub accepted : accepted_among calls answers ≡ (run i (map call_of calls)).counts.accepted
  pub made : (run i (map call_of calls)).counts.made ≡ 0
  pub patched : (run i (map call_of calls)).counts.patched ≡ 0
  pub finished : (run i (map call_of calls)).finished ≡ false

run_push : (i : Isa) (r : Run) (cs : List model.Call) (c : model.Call) → run_from i r (cs ++ c ∷ []) ≡ next i (run_from i r cs) c
run_push i r [] c = refl
run_push i r (x ∷ xs) c = run_push i (next i r x) xs c

-- what one call more adds to a run
record Adds (i : Isa) (r : Run) (c : Call) (a : Result Reply Refusal) (t : State) : Type 0 where
  pub state : (next i r (call_of c)).state ≡ t
  pub answers : (next i r (call_of c)).answers ≡ answer_of a ∷ r.answers
  pub accepted : (next i r (call_of c)).counts.accepted ≡ r.counts.accepted + cond (is_accepted (call_of c) (answer_of a)) 1 0
  pub made : (next i r (call_of c)).counts.made ≡ r.counts.made + 0
  pub patched : (next i r (call_of c)).counts.patched ≡ r.counts.patched + 0
  pub finished : (next i r (call_of c)).finished ≡ false

adds : (i : Isa) (r : Run) (c : Call) (a : Result Reply Refusal) (t : State) → r.finished ≡ false → (answer_of a, t) ≡ model.step i r.state (call_of c) → Adds i r c a t
adds i r c a t f e =
    let said = sym (ap (λ (p : model.Answer × State). p.0) e) in
    let counted = accepts i r.state c in
    rw f (record {
      state = sym (ap (λ (p : model.Answer × State). p.1) e);
      answers = ap (λ (x : model.Answer). x ∷ r.answers) said;
      accepted = ap (λ (n : ℕ). r.counts.accepted + n) (counted.accepted ∙ ap (λ (x : model.Answer). cond (is_accepted (call_of c) x) 1 0) said);
      made = ap (λ (n : ℕ). r.counts.made + n) counted.made;
      patched = ap (λ (n : ℕ). r.counts.patched + n) counted.patched;
      finished = ap ends said ∙ goes_on a;
    })

zip_push : (calls : List Call) (answers : List (Result Reply Refusal)) (c : Call) (a : Result Reply Refusal) → length answers ≡ length calls
    → zip (calls ++ c ∷ []) (answers ++ a ∷ []) ≡ zip calls answers ++ (c, a) ∷ []
zip_push [] [] c a h = refl
zip_push [] (b ∷ bs) c a h = absurd (omega (arith, h))
zip_push (d ∷ ds) [] c a h = absurd (omega (arith, h))
zip_push (d ∷ ds) (b ∷ bs) c a h = ap (λ (ps : List (Call × Result Reply Refusal)). (d, b) ∷ ps) (zip_push ds bs c a (omega (arith, h)))

accepted_more : (calls : List Call) (answers : List (Result Reply Refusal)) (c : Call) (a : Result Reply Refusal) → length answers ≡ length calls
    → accepted_among (calls ++ c ∷ []) (answers ++ a ∷ []) ≡ accepted_among calls answers + cond (is_accepted (call_of c) (answer_of a)) 1 0
accepted_more calls answers c a h =
    let f : Call × Result Reply Refusal → ℕ = λ (d, b). cond (is_accepted (call_of d) (answer_of b)) 1 0 in
    ap (sum_by f) (zip_push calls answers c a h) ∙ sum_by-append f (zip calls answers) ((c, a) ∷ []) ∙ omega arith

-- one call more
pub one_more : (i : Isa) (calls : List Call) (answers : List (Result Reply Refusal)) (s t : State) (c : Call) (a : Result Reply Refusal)
    → Follows i calls answers s → (answer_of a, t) ≡ model.step i s (call_of c) → Follows i (calls ++ c ∷ []) (answers ++ a ∷ []) t
one_more i calls answers s t c a h e =
    let r = run i (map call_of calls) in
    let next_is : run i (map call_of (calls ++ c ∷ [])) ≡ next i r (call_of c) =
    ap (run i) (map-append call_of calls (c ∷ [])) ∙ run_push i begun (map call_of calls) (call_of c) in
    let x = adds i r c a t h.finished (e ∙ ap (λ (u : State). model.step i u (call_of c)) h.tables) in
    record {
      len = length-append answers (a ∷ []) ∙ ap (λ (n : ℕ). n + 1) h.len ∙ sym (length-append calls (c ∷ []));
      tables = sym (ap (λ (q : Run). q.state) next_is ∙ x.state);
      answered = map-append answer_of answers (a ∷ []) ∙ ap (λ (ys : List model.Answer). ys ++ answer_of a ∷ []) h.answered ∙ sym (reverse-cons (answer_of a) r.answers)
          ∙ ap reverse (sym (ap (λ (q : Run). q.answers) next_is ∙ x.answers));
      accepted = accepted_more calls answers c a h.len ∙ ap (λ (n : ℕ). n + cond (is_accepted (call_of c) (answer_of a)) 1 0) h.accepted
          ∙ sym (ap (λ (q : Run). q.counts.accepted) next_is ∙ x.accepted);
      made = ap (λ (q : Run). q.counts.made) next_is ∙ x.made ∙ omega (arith, h.made);
      patched = ap (λ (q : Run). q.counts.patched) next_is ∙ x.patched ∙ omega (arith, h.patched);
      finished = ap (λ (q : Run). q.finished) next_is ∙ x.finished;
    }

-- no use is lost: of a uses accepted, those that do not wait were removed
module _ (i : Isa) (calls : List Call) (answers : List (Result Reply Refusal)) (s : State) (a w : ℕ) (h : Follows i calls answers s) (e : a ≡ accepted_among calls answers) (f : w ≡ waiting s) where
  pub waiting_within : w ≤ a
  waiting_within = omega (arith, run_accounted i (map call_of calls), ap waiting h.tables, h.accepted, h.made, h.patched)

  pub counts_are : tally_of a 0 0 (a - w) ≡ (run i (map call_of calls)).counts
  counts_are =
      let accepted : a ≡ (run i (map call_of calls)).counts.accepted = e ∙ h.accepted in
      let removed : a - w ≡ (run i (map call_of calls)).counts.removed =
      omega (arith, run_accounted i (map call_of calls), ap waiting h.tables, h.accepted, h.made, h.patched) in
      λ j. record { accepted = accepted j; made = sym h.made j; patched = sym h.patched j; removed = removed j }
