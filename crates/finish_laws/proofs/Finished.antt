-- A list of calls that has finished did so by one call.
use Rattle.std.proofs.Common.{◌≡◌, ℕ, Bool, true, false, ◌⊎◌, List, [], ◌∷◌, length, Ok, Err, Result, refl, ap, ◌∙◌, inl, inr}
use Rattle.std.proofs.lemmas.Bool.{both_ways, false≢true, cases_Bool, cond-true, cond-false}
use Rattle.isa.specs.Isa.{Isa}
use Rattle.model.specs.declared.refusals.Refusal.{Refusal}
use Rattle.model.specs.State.{State}
use Rattle.model.specs.Calls.{get_label, bind_label, put_data, align_to, use_label_at_offset, add_uncond_branch, add_cond_branch, defer_trap, register_constant, get_label_for_constant, optimize_branches, start_patchable, end_patchable}
use Rattle.model.specs.Islands.{emit_island}
use Rattle.model.specs.Finish.{finish}
use Rattle.model.specs.Questions.{resolve_label_offset}
use Rattle.model.specs.Steps.{Call, GetLabel, BindLabel, PutData, AlignTo, UseLabelAtOffset, AddUncondBranch, AddCondBranch, DeferTrap, RegisterConstant, GetLabelForConstant, OptimizeBranches, StartPatchable, EndPatchable, EmitIsland, Finish, CurOffset, ResolveLabelOffset, IslandNeeded, Answer, Number, Closed, Finished, answer_of, nothing_more, step}
use Rattle.model.specs.Runs.{Run, ends, next, run_from}

-- only finishing ends the building
goes_on : {X : Type 0} (f : X → Answer) → ((x : X) → ends (f x) ≡ false) → (r : Result X Refusal) → ends (answer_of f r) ≡ true → ⊥
goes_on f h (Ok x) e = both_ways _ (h x) e
goes_on f h (Err x) e = false≢true e

number_goes_on : (r : Result ℕ Refusal) → ends (answer_of Number r) ≡ true → ⊥
number_goes_on = goes_on Number (λ x. refl)

granted_goes_on : (r : Result (Unit {0}) Refusal) → ends (answer_of nothing_more r) ≡ true → ⊥
granted_goes_on = goes_on nothing_more (λ x. refl)

finish_granted : (r : Result ℕ Refusal) → ends (answer_of Finished r) ≡ true → (n : ℕ) × (r ≡ Ok n)
finish_granted (Ok n) e = (n, refl)
finish_granted (Err x) e = absurd (false≢true e)

-- the call that finished
record Finishes (i : Isa) (s after : State) : Type 0 where
  force : Bool
  pool : List ℕ
  count : ℕ
  granted : (finish i s force pool).0 ≡ Ok count
  tables : after ≡ (finish i s force pool).1

step_finishes : (i : Isa) (s : State) (c : Call) → ends (step i s c).0 ≡ true → Finishes i s (step i s c).1
step_finishes i s GetLabel e = absurd (number_goes_on (get_label s).0 e)
step_finishes i s (BindLabel l skip) e = absurd (granted_goes_on (bind_label i s l skip).0 e)
step_finishes i s (PutData trap bytes) e = absurd (number_goes_on (put_data s trap bytes).0 e)
step_finishes i s (AlignTo n) e = absurd (granted_goes_on (align_to s n).0 e)
step_finishes i s (UseLabelAtOffset l k bytes) e = absurd (number_goes_on (use_label_at_offset i s l k bytes).0 e)
step_finishes i s (AddUncondBranch l k bytes) e = absurd (number_goes_on (add_uncond_branch i s l k bytes).0 e)
step_finishes i s (AddCondBranch l k bytes inverted) e = absurd (number_goes_on (add_cond_branch i s l k bytes inverted).0 e)
step_finishes i s (DeferTrap trap) e = absurd (number_goes_on (defer_trap s trap).0 e)
step_finishes i s (RegisterConstant size align) e = absurd (number_goes_on (register_constant i s size align).0 e)
step_finishes i s (GetLabelForConstant n) e = absurd (number_goes_on (get_label_for_constant s n).0 e)
step_finishes i s (OptimizeBranches skip) e = absurd (granted_goes_on (optimize_branches s skip).0 e)
step_finishes i s StartPatchable e = absurd (number_goes_on (start_patchable s).0 e)
step_finishes i s EndPatchable e = absurd (goes_on Closed (λ x. refl) (end_patchable s (length s.regions)).0 e)
step_finishes i s (EmitIsland distance) e = absurd (granted_goes_on (emit_island i s distance).0 e)
step_finishes i s (Finish force pool) e = let g = finish_granted (finish i s force pool).0 e in record { force = force; pool = pool; count = g.0; granted = g.1; tables = refl }
step_finishes i s CurOffset e = absurd (false≢true e)
step_finishes i s (ResolveLabelOffset l) e = absurd (number_goes_on (resolve_label_offset s l) e)
step_finishes i s (IslandNeeded distance) e = absurd (false≢true e)

-- a finished buffer takes no call
stays_finished : (i : Isa) (r : Run) (cs : List Call) → r.finished ≡ true → run_from i r cs ≡ r
stays_finished i r [] e = refl
stays_finished i r (c ∷ cs) e = ap (λ (q : Run). run_from i q cs) (cond-true r.finished _ _ e) ∙ stays_finished i r cs e

-- the calls before it, and the one that finished
pub record LastCall (i : Isa) (r : Run) (after : State) : Type 0 where
  pub before : List Call
  pub building : (run_from i r before).finished ≡ false
  pub force : Bool
  pub pool : List ℕ
  pub count : ℕ
  pub granted : (finish i (run_from i r before).state force pool).0 ≡ Ok count
  pub tables : after ≡ (finish i (run_from i r before).state force pool).1

pub last_call : (i : Isa) (r : Run) (cs : List Call) → r.finished ≡ false → (run_from i r cs).finished ≡ true → LastCall i r (run_from i r cs).state
last_call i r [] b e = absurd (both_ways _ b e)
last_call i r (c ∷ cs) b e = by (λ f. last_call i (next i r c) cs f e) (cases_Bool (next i r c).finished)
  where
    by : ((next i r c).finished ≡ false → LastCall i (next i r c) (run_from i (next i r c) cs).state) → ((next i r c).finished ≡ true) ⊎ ((next i r c).finished ≡ false) → LastCall i r (run_from i (next i r c) cs).state
    by further (inl t) =
        let y : Run = record { state = (step i r.state c).1; counts = _; answers = _; finished = ends (step i r.state c).0 } in
        let same : next i r c ≡ y = cond-false r.finished _ _ b in
        let f : Finishes i r.state (step i r.state c).1 = step_finishes i r.state c (rw same at t) in
        record {
          before = [];
          building = b;
          force = f.force;
          pool = f.pool;
          count = f.count;
          granted = f.granted;
          tables = ap (λ (q : Run). q.state) (stays_finished i (next i r c) cs t ∙ same) ∙ f.tables;
        }
    by further (inr n) =
        let f = further n in
        record { before = c ∷ f.before; building = f.building; force = f.force; pool = f.pool; count = f.count; granted = f.granted; tables = f.tables }
