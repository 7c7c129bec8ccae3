-- Calls as values, and what each answers.
use Rattle.std.specs.Prelude.{ℕ, Bool, List, length, Ok, Err, Result}
use Rattle.isa.specs.Isa.{Isa}
use Rattle.model.specs.declared.rows.Region.{Region}
use Rattle.model.specs.declared.refusals.Refusal.{Refusal}
use Rattle.model.specs.State.{State, cur_offset}
use Rattle.model.specs.Calls.{get_label, bind_label, put_data, align_to, use_label_at_offset, add_uncond_branch, add_cond_branch, defer_trap, register_constant, get_label_for_constant, optimize_branches, start_patchable, end_patchable}
use Rattle.model.specs.Islands.{emit_island}
use Rattle.model.specs.Finish.{finish}
use Rattle.model.specs.Questions.{resolve_label_offset, island_needed}

-- the calls that build, then the questions
pub data Call : Type 0 where
  GetLabel : Call
  BindLabel : ℕ → Bool → Call  -- label, skip
  PutData : ℕ → List ℕ → Call  -- trap code, bytes
  AlignTo : ℕ → Call
  UseLabelAtOffset : ℕ → ℕ → List ℕ → Call  -- label, kind, bytes
  AddUncondBranch : ℕ → ℕ → List ℕ → Call  -- label, kind, bytes
  AddCondBranch : ℕ → ℕ → List ℕ → List ℕ → Call  -- label, kind, bytes, inverted bytes
  DeferTrap : ℕ → Call  -- trap code
  RegisterConstant : ℕ → ℕ → Call  -- size, alignment
  GetLabelForConstant : ℕ → Call  -- constant
  OptimizeBranches : Bool → Call  -- skip
  StartPatchable : Call
  EndPatchable : Call  -- of the open region
  EmitIsland : ℕ → Call  -- distance
  Finish : Bool → List ℕ → Call  -- force, pool
  CurOffset : Call
  ResolveLabelOffset : ℕ → Call  -- label
  IslandNeeded : ℕ → Call  -- distance

-- granted, with nothing more to say, a number, a closed region, yes or no, or how many islands finishing took; or refused
pub data Answer : Type 0 where
  Granted : Answer
  Number : ℕ → Answer
  Closed : Region → Answer
  YesNo : Bool → Answer
  Finished : ℕ → Answer
  Refused : Refusal → Answer

-- a result as an answer, with what is said of a granted one
abbrev pub answer_of : {X : Type 0} → (X → Answer) → Result X Refusal → Answer
answer_of f (Ok x) = f x
answer_of f (Err e) = Refused e

-- granted, and that is all
abbrev pub nothing_more : Unit {0} → Answer
nothing_more x = Granted

-- what a call gives, with its result as an answer
abbrev pub answered : {X : Type 0} → (X → Answer) → Result X Refusal × State → Answer × State
answered f r = (answer_of f r.0, r.1)

-- what a call answers, and the tables after it
abbrev pub step : Isa → State → Call → Answer × State
step i s GetLabel = answered Number (get_label s)
step i s (BindLabel l skip) = answered nothing_more (bind_label i s l skip)
step i s (PutData trap bytes) = answered Number (put_data s trap bytes)
step i s (AlignTo n) = answered nothing_more (align_to s n)
step i s (UseLabelAtOffset l k bytes) = answered Number (use_label_at_offset i s l k bytes)
step i s (AddUncondBranch l k bytes) = answered Number (add_uncond_branch i s l k bytes)
step i s (AddCondBranch l k bytes inverted) = answered Number (add_cond_branch i s l k bytes inverted)
step i s (DeferTrap trap) = answered Number (defer_trap s trap)
step i s (RegisterConstant size align) = answered Number (register_constant i s size align)
step i s (GetLabelForConstant n) = answered Number (get_label_for_constant s n)
step i s (OptimizeBranches skip) = answered nothing_more (optimize_branches s skip)
step i s StartPatchable = answered Number (start_patchable s)
step i s EndPatchable = answered Closed (end_patchable s (length s.regions))
step i s (EmitIsland distance) = answered nothing_more (emit_island i s distance)
step i s (Finish force pool) = answered Finished (finish i s force pool)
step i s CurOffset = (Number (cur_offset s), s)
step i s (ResolveLabelOffset l) = (answer_of Number (resolve_label_offset s l), s)
step i s (IslandNeeded distance) = (YesNo (island_needed i s distance), s)
