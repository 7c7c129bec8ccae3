-- No use is lost: after every call, what was accepted and made is what was patched, removed or waits.
use Rattle.std.proofs.Common.{◌≡◌, ℕ, ◌+◌, Bool, false, cond, List, [], ◌∷◌, length, Some, None, Ok, Err, Option, Result, refl, arith, length-append}
use Rattle.isa.specs.Isa.{Isa}
use Rattle.isa.specs.Patches.{inversion}
use Rattle.model.specs.declared.refusals.Refusal.{Refusal}
use Rattle.model.specs.State.{State}
use Rattle.model.specs.Fixups.{waiting}
use Rattle.model.specs.Constants.{constant_row}
use Rattle.model.specs.Simplify.{simplified, cuts}
use Rattle.model.specs.Calls.{bind, append_use, append_branch, is_jump, get_label, bind_label, put_data, align_to, use_label_at_offset, add_branch, defer_trap, register_constant, request, get_label_for_constant, optimize_branches, start_patchable, close}
use Rattle.model.specs.Progress.{Progress}
use Rattle.model.specs.Islands.{island, ended, emit_island}
use Rattle.model.specs.Finish.{longest_chain, all_islands, unfit, concluded, finish_unless}
use Rattle.model.specs.Steps.{Call, GetLabel, BindLabel, PutData, AlignTo, UseLabelAtOffset, AddUncondBranch, AddCondBranch, DeferTrap, RegisterConstant, GetLabelForConstant, OptimizeBranches, StartPatchable, EndPatchable, EmitIsland, Finish, CurOffset, ResolveLabelOffset, IslandNeeded, Answer, Number, answer_of, nothing_more, step}
use Rattle.model.specs.Tallies.{Tally, tally_of, no_tally, if_granted, of_islands, of_finish, tally}
use Rattle.model.specs.Runs.{Run, begun, next, run_from, run}
use Rattle.model.specs.Laws.{Accounted}
use Rattle.model.proofs.Cases.{either, both}
use Rattle.model.proofs.Removed.{Sound, Removes, simplified_removes}
use Rattle.model.proofs.Patched.{Leaves, island_leaves, islands_leave}

-- a call with its tally, from some tables to others
record Balanced (t : Tally) (s r : State) : Type 0 where
  even : t.accepted + t.made + waiting s ≡ t.patched + t.removed + waiting r
  sound : Sound r

-- a call that has no tally
record Quiet {X : Type 0} (s : State) (x : X × State) : Type 0 where
  holds : Balanced no_tally s x.1

quiet_if : {X : Type 0} (s r : State) (x : X) → Sound s → r.fresh ≡ s.fresh → r.held ≡ s.held → r.branches ≡ s.branches → Quiet s (x, r)
quiet_if s r x k f h b = record { holds = record { even = rw (f, h); sound = rw (f, b) k } }

quiet_either : {X : Type 0} (s : State) (b : Bool) (x y : X × State) → Quiet s x → Quiet s y → Quiet s (cond b x y)
quiet_either s b x y = either (Quiet s) b x y

get_label_quiet : (s : State) → Sound s → Quiet s (get_label s)
get_label_quiet s k = search (quiet_either, quiet_if) depth 9

put_data_quiet : (s : State) (trap : ℕ) (bytes : List ℕ) → Sound s → Quiet s (put_data s trap bytes)
put_data_quiet s trap bytes k = search (quiet_either, quiet_if) depth 9

align_to_quiet : (s : State) (n : ℕ) → Sound s → Quiet s (align_to s n)
align_to_quiet s n k = search (quiet_either, quiet_if) depth 9

defer_trap_quiet : (s : State) (trap : ℕ) → Sound s → Quiet s (defer_trap s trap)
defer_trap_quiet s trap k = search (quiet_either, quiet_if) depth 9

register_constant_quiet : (i : Isa) (s : State) (size align : ℕ) → Sound s → Quiet s (register_constant i s size align)
register_constant_quiet i s size align k = search (quiet_either, quiet_if) depth 9

request_quiet : (o : Option ℕ) (s : State) (n : ℕ) → Sound s → Quiet s (request o s n)
request_quiet (Some l) s n k = search quiet_if
request_quiet None s n k = search (quiet_either, quiet_if) depth 9

get_label_for_constant_quiet : (s : State) (n : ℕ) → Sound s → Quiet s (get_label_for_constant s n)
get_label_for_constant_quiet s n k = let r = request_quiet (constant_row s n).label s n k in search (quiet_either, quiet_if) depth 9

start_patchable_quiet : (s : State) → Sound s → Quiet s (start_patchable s)
start_patchable_quiet s k = search (quiet_either, quiet_if) depth 9

close_quiet : (o : Option ℕ) (s : State) (n : ℕ) → Sound s → Quiet s (close o s n)
close_quiet None s n k = search quiet_if
close_quiet (Some start) s n k = search (quiet_either, quiet_if) depth 9

-- a call that has a tally if it is granted
record Keeps {X : Type 0} (f : X → Answer) (t : Tally) (s : State) (x : Result X Refusal × State) : Type 0 where
  holds : Balanced (if_granted (answer_of f x.0) t) s x.1

refused_keeps : {X : Type 0} (f : X → Answer) (t : Tally) (s : State) (e : Refusal) → Sound s → Keeps f t s (Err e, s)
refused_keeps f t s e k = record { holds = record { even = refl; sound = k } }

simplified_keeps : (skip : Bool) (s : State) → Sound s → Keeps nothing_more (tally_of 0 0 0 (cuts skip s)) s (Ok tt, simplified skip s)
simplified_keeps skip s k =
    let f : Removes s (cuts skip s) (simplified skip s) = simplified_removes skip s k in
    record { holds = record { even = omega (arith, f.fewer); sound = f.sound } }

bound_keeps : (skip : Bool) (s : State) (l : ℕ) → Sound s → Keeps nothing_more (tally_of 0 0 0 (cuts skip (bind s l))) s (Ok tt, simplified skip (bind s l))
bound_keeps skip s l k =
    let b = (simplified_keeps skip (bind s l) k).holds in
    record { holds = record { even = b.even; sound = b.sound } }

bind_label_keeps : (i : Isa) (s : State) (l : ℕ) (skip : Bool) → Sound s → Keeps nothing_more (tally_of 0 0 0 (cuts skip (bind s l))) s (bind_label i s l skip)
bind_label_keeps i s l skip k = search (either (Keeps nothing_more (tally_of 0 0 0 (cuts skip (bind s l))) s), refused_keeps, bound_keeps) depth 9

optimize_branches_keeps : (s : State) (skip : Bool) → Sound s → Keeps nothing_more (tally_of 0 0 0 (cuts skip s)) s (optimize_branches s skip)
optimize_branches_keeps s skip k = search (either (Keeps nothing_more (tally_of 0 0 0 (cuts skip s)) s), refused_keeps, simplified_keeps) depth 9

use_keeps : (i : Isa) (s : State) (l k n : ℕ) (bytes : List ℕ) → Sound s → Keeps Number (tally_of 1 0 0 0) s (Ok n, append_use i s l k bytes)
use_keeps i s l k n bytes h = record { holds = record { even = simp length-append (omega arith); sound = simp length-append (omega arith) } }

branch_keeps : (i : Isa) (s : State) (l k n : ℕ) (bytes : List ℕ) (inverted : Option (List ℕ)) → Sound s → Keeps Number (tally_of 1 0 0 0) s (Ok n, append_branch i s l k bytes inverted)
branch_keeps i s l k n bytes inverted h = record { holds = record { even = simp length-append (omega arith); sound = simp length-append (omega arith) } }

use_label_keeps : (i : Isa) (s : State) (l k : ℕ) (bytes : List ℕ) → Sound s → Keeps Number (tally_of 1 0 0 0) s (use_label_at_offset i s l k bytes)
use_label_keeps i s l k bytes h = search (either (Keeps Number (tally_of 1 0 0 0) s), refused_keeps, use_keeps) depth 12

add_branch_keeps : (i : Isa) (s : State) (suits : Bool) (l k : ℕ) (bytes : List ℕ) (inverted : Option (List ℕ)) → Sound s → Keeps Number (tally_of 1 0 0 0) s (add_branch i s suits l k bytes inverted)
add_branch_keeps i s suits l k bytes inverted h = search (either (Keeps Number (tally_of 1 0 0 0) s), refused_keeps, branch_keeps) depth 12

-- an island, and what is counted of it
record Emits (s : State) (t : Tally) (x : Result (Unit {0}) Refusal × State) : Type 0 where
  holds : Balanced t s x.1

emits_nothing : (s : State) (e : Refusal) → Sound s → Emits s no_tally (Err e, s)
emits_nothing s e k = record { holds = record { even = refl; sound = k } }

emits : (s : State) (p : Progress) (o : Option Refusal) → Leaves s p → Emits s (of_islands p) (ended o p.state)
emits s p None f = record { holds = record { even = omega (arith, f.even); sound = f.sound } }
emits s p (Some e) f = record { holds = record { even = omega (arith, f.even); sound = f.sound } }

emit_island_emits : (i : Isa) (s : State) (distance : ℕ) → Sound s → Emits s (tally i s (EmitIsland distance)) (emit_island i s distance)
emit_island_emits i s distance k =
    let p = island i false distance s in
    let whole : Emits s (of_islands p) (ended p.failed p.state) = emits s p p.failed (island_leaves i false distance s) in
    search (both (Emits s), emits_nothing)

concluded_balanced : (s : State) (p : Progress) (pool : List ℕ) (o : Option Refusal) → Leaves s p → Balanced (of_islands p) s (concluded o p pool).1
concluded_balanced s p pool None f = record { even = omega (arith, f.even); sound = f.sound }
concluded_balanced s p pool (Some e) f = record { even = omega (arith, f.even); sound = f.sound }

finish_balanced : (i : Isa) (s : State) (force : Bool) (pool : List ℕ) (o : Option Refusal) → Sound s → Balanced (of_finish o (all_islands i force s)) s (finish_unless o i s force pool).1
finish_balanced i s force pool None k =
    let p = all_islands i force s in
    concluded_balanced s p pool p.failed (islands_leave i force (2 + longest_chain i) s k)
finish_balanced i s force pool (Some e) k = record { even = refl; sound = k }

-- each call
step_balanced : (i : Isa) (s : State) (c : Call) → Sound s → Balanced (tally i s c) s (step i s c).1
step_balanced i s GetLabel h = (get_label_quiet s h).holds
step_balanced i s (BindLabel l skip) h = (bind_label_keeps i s l skip h).holds
step_balanced i s (PutData trap bytes) h = (put_data_quiet s trap bytes h).holds
step_balanced i s (AlignTo n) h = (align_to_quiet s n h).holds
step_balanced i s (UseLabelAtOffset l k bytes) h = (use_label_keeps i s l k bytes h).holds
step_balanced i s (AddUncondBranch l k bytes) h = (add_branch_keeps i s (is_jump i k bytes) l k bytes None h).holds
step_balanced i s (AddCondBranch l k bytes inverted) h = (add_branch_keeps i s (inversion i k bytes inverted) l k bytes (Some inverted) h).holds
step_balanced i s (DeferTrap trap) h = (defer_trap_quiet s trap h).holds
step_balanced i s (RegisterConstant size align) h = (register_constant_quiet i s size align h).holds
step_balanced i s (GetLabelForConstant n) h = (get_label_for_constant_quiet s n h).holds
step_balanced i s (OptimizeBranches skip) h = (optimize_branches_keeps s skip h).holds
step_balanced i s StartPatchable h = (start_patchable_quiet s h).holds
step_balanced i s EndPatchable h = (close_quiet s.opened s (length s.regions) h).holds
step_balanced i s (EmitIsland distance) h = (emit_island_emits i s distance h).holds
step_balanced i s (Finish force pool) h = finish_balanced i s force pool (unfit s pool) h
step_balanced i s CurOffset h = record { even = refl; sound = h }
step_balanced i s (ResolveLabelOffset l) h = record { even = refl; sound = h }
step_balanced i s (IslandNeeded distance) h = record { even = refl; sound = h }

-- a run so far
record Whole (r : Run) : Type 0 where
  accounted : Accounted r
  sound : Sound r.state

next_whole : (i : Isa) (r : Run) (c : Call) → Whole r → Whole (next i r c)
next_whole i r c w =
    let b : Balanced (tally i r.state c) r.state (step i r.state c).1 = step_balanced i r.state c w.sound in
    either Whole r.finished _ _ w (record { accounted = omega (arith, w.accounted, b.even); sound = b.sound })

run_whole : (i : Isa) (r : Run) (cs : List Call) → Whole r → Whole (run_from i r cs)
run_whole i r [] w = w
run_whole i r (c ∷ cs) w = run_whole i (next i r c) cs (next_whole i r c w)

-- after every list of calls
pub run_accounted : (i : Isa) (cs : List Call) → Accounted (run i cs)
run_accounted i cs = (run_whole i begun cs (record { accounted = refl; sound = omega arith })).accounted
