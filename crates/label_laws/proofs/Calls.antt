-- Every call keeps the tables sound, and no label goes forward.
use Rattle.std.proofs.Common.{◌≡◌, ℕ, ◌+◌, ◌<◌, Bool, true, false, cond, not, leb, List, [], ◌∷◌, ◌++◌, length, Some, None, Option, refl, arith}
use Rattle.std.proofs.lemmas.Bool.{leb-false, ltb-false, or_parts, cond_both}
use Rattle.std.proofs.ByRecursion.{All-push}
use Rattle.isa.specs.Isa.{Isa}
use Rattle.isa.specs.Patches.{inversion}
use Rattle.model.specs.declared.refusals.Refusal.{Refusal}
use Rattle.model.specs.declared.rows.Place.TheVariants.{Nowhere}
use Rattle.model.specs.Capacities.{max_labels}
use Rattle.model.specs.State.{State, cur_offset, with_constants, with_deferred, with_requested}
use Rattle.model.specs.Full.{no_room, labels_full}
use Rattle.model.specs.Labels.{is_nowhere, label_row}
use Rattle.model.specs.Constants.{constant_row, label_constant}
use Rattle.model.specs.Simplify.{simplified}
use Rattle.model.specs.Calls.{no_label, add_label, is_taken, bind, append_use, append_branch, is_jump, get_label, bind_label, put_data, align_to, use_label_at_offset, add_branch, defer_trap, register_constant, request, get_label_for_constant, optimize_branches, start_patchable, close}
use Rattle.model.specs.Progress.{Progress}
use Rattle.model.specs.Islands.{island, ended, emit_island}
use Rattle.model.specs.Finish.{longest_chain, all_islands, unfit, concluded, finish_unless}
use Rattle.model.specs.Steps.{Call, GetLabel, BindLabel, PutData, AlignTo, UseLabelAtOffset, AddUncondBranch, AddCondBranch, DeferTrap, RegisterConstant, GetLabelForConstant, OptimizeBranches, StartPatchable, EndPatchable, EmitIsland, Finish, CurOffset, ResolveLabelOffset, IslandNeeded, step}
use Rattle.model.proofs.Labels.{not_placed}
use Rattle.label_laws.specs.Sound.{UseAmong, BranchAmong, Sound, Goes}
use Rattle.label_laws.proofs.Edits.{pushed_keeps, bound_keeps}
use Rattle.label_laws.proofs.Tables.{registered, labelled, trap_deferred, constant_requested, bound}
use Rattle.label_laws.proofs.Goes.{goes_same, goes_on, goes_beside}
use Rattle.label_laws.proofs.Simplified.{simplified_goes}
use Rattle.label_laws.proofs.Islands.{Gets, island_gets, islands_get}

-- what a call gives
record Gives {X : Type 0} (s : State) (x : X × State) : Type 0 where
  holds : Goes s x.1

-- refused by a test, or else what comes after it
unless : {X : Type 0} (s : State) (b : Bool) (x y : X × State) → Gives s x → (b ≡ false → Gives s y) → Gives s (cond b x y)
unless s b x y p q = cond_both b x y (Gives s) (λ e. p) q

-- the tables that name labels are as they were
gives_if : {X : Type 0} (s r : State) (x : X) → Sound s → r.labels ≡ s.labels → r.branches ≡ s.branches → r.fresh ≡ s.fresh → r.held ≡ s.held → r.deferred ≡ s.deferred → r.constants ≡ s.constants → r.requested ≡ s.requested → Gives s (x, r)
gives_if s r x k l b f h d c q = record { holds = goes_beside s r k (rw (l, b, f, h, d, c, q) k) l }

put_data_gives : (s : State) (trap : ℕ) (bytes : List ℕ) → Sound s → Gives s (put_data s trap bytes)
put_data_gives s trap bytes k = search (unless, gives_if) depth 12

align_to_gives : (s : State) (n : ℕ) → Sound s → Gives s (align_to s n)
align_to_gives s n k = search (unless, gives_if) depth 12

start_patchable_gives : (s : State) → Sound s → Gives s (start_patchable s)
start_patchable_gives s k = search (unless, gives_if) depth 12

close_gives : (o : Option ℕ) (s : State) (n : ℕ) → Sound s → Gives s (close o s n)
close_gives None s n k = search gives_if
close_gives (Some start) s n k = search (unless, gives_if) depth 12

-- new labels
not_full : (s : State) → labels_full s ≡ false → length s.labels < max_labels
not_full s e = leb-false _ _ e

label_gives : {X : Type 0} (s : State) (x : X) → labels_full s ≡ false → Sound s → Gives s (x, add_label s false)
label_gives s x e k = record { holds = record { sound = labelled s.labels s.branches s.fresh s.held s.deferred s.constants s.requested (not_full s e) k; later = (pushed_keeps s.labels false (not_full s e) k.labels).later } }

get_label_gives : (s : State) → Sound s → Gives s (get_label s)
get_label_gives s k = search (unless, gives_if, label_gives) depth 12

trap_gives : {X : Type 0} (s : State) (x : X) (code : ℕ) → labels_full s ≡ false → Sound s → Gives s (x, with_deferred (add_label s true) (s.deferred ++ record { label = length s.labels; code = code } ∷ []))
trap_gives s x code e k = record { holds = record { sound = trap_deferred s.labels s.branches s.fresh s.held s.deferred s.constants s.requested code (not_full s e) k; later = (pushed_keeps s.labels true (not_full s e) k.labels).later } }

defer_trap_gives : (s : State) (trap : ℕ) → Sound s → Gives s (defer_trap s trap)
defer_trap_gives s trap k = search (unless, gives_if, trap_gives) depth 12

-- constants
registered_gives : {X : Type 0} (s : State) (x : X) (size align : ℕ) → Sound s → Gives s (x, with_constants s (s.constants ++ record { size = size; align = align; label = None } ∷ []))
registered_gives s x size align k = record { holds = goes_beside s _ k (registered s.labels s.branches s.fresh s.held s.deferred s.constants s.requested size align k) refl }

register_constant_gives : (i : Isa) (s : State) (size align : ℕ) → Sound s → Gives s (register_constant i s size align)
register_constant_gives i s size align k = search (unless, gives_if, registered_gives) depth 12

requested_gives : {X : Type 0} (s : State) (x : X) (n : ℕ) → n < length s.constants → (constant_row s n).label ≡ None → labels_full s ≡ false → Sound s
    → Gives s (x, with_requested (with_constants (add_label s true) (label_constant s n (Some (length s.labels)))) (s.requested ++ n ∷ []))
requested_gives s x n exists free e k = record {
  holds = record {
    sound = constant_requested s.labels s.branches s.fresh s.held s.deferred s.constants s.requested n (constant_row s n).size (constant_row s n).align exists free (not_full s e) k;
    later = (pushed_keeps s.labels true (not_full s e) k.labels).later;
  };
}

request_gives : (o : Option ℕ) (s : State) (n : ℕ) → (constant_row s n).label ≡ o → n < length s.constants → Sound s → Gives s (request o s n)
request_gives (Some l) s n free exists k = search gives_if
request_gives None s n free exists k = search (unless, gives_if, requested_gives) depth 12

get_label_for_constant_gives : (s : State) (n : ℕ) → Sound s → Gives s (get_label_for_constant s n)
get_label_for_constant_gives s n k =
    let asked : leb (length s.constants) n ≡ false → Gives s (request (constant_row s n).label s n) = λ e. request_gives (constant_row s n).label s n refl (leb-false _ _ e) k in
    search (unless, gives_if) depth 12

-- a label is bound
bind_goes : (s : State) (l : ℕ) → is_taken s l ≡ false → Sound s → Goes s (bind s l)
bind_goes s l free k =
    let a = or_parts (not (is_nowhere (label_row s.labels l).place)) _ free in
    let nowhere : (label_row s.labels l).place ≡ Nowhere = not_placed _ a.0 in
    record {
      sound = bound s.labels s.branches s.fresh s.held s.deferred s.constants s.requested l (cur_offset s) nowhere a.1 k;
      later = (bound_keeps s.labels l (cur_offset s) nowhere k.labels).later;
    }

bound_gives : {X : Type 0} (s : State) (x : X) (l : ℕ) (skip : Bool) → is_taken s l ≡ false → Sound s → Gives s (x, simplified skip (bind s l))
bound_gives s x l skip free k = let g = bind_goes s l free k in record { holds = goes_on s (bind s l) _ g (simplified_goes skip (bind s l) g.sound) }

bind_label_gives : (i : Isa) (s : State) (l : ℕ) (skip : Bool) → Sound s → Gives s (bind_label i s l skip)
bind_label_gives i s l skip k = search (unless, gives_if, bound_gives) depth 12

simplified_gives : {X : Type 0} (s : State) (x : X) (skip : Bool) → Sound s → Gives s (x, simplified skip s)
simplified_gives s x skip k = record { holds = simplified_goes skip s k }

optimize_branches_gives : (s : State) (skip : Bool) → Sound s → Gives s (optimize_branches s skip)
optimize_branches_gives s skip k = search (unless, gives_if, simplified_gives) depth 12

-- uses and branches
use_goes : (i : Isa) (s : State) (l k : ℕ) (bytes : List ℕ) → no_label s l ≡ false → Sound s → Goes s (append_use i s l k bytes)
use_goes i s l k bytes exists t =
    goes_beside s (append_use i s l k bytes) t
    (record { labels = t.labels; branches = t.branches; fresh = All-push (UseAmong (length s.labels)) s.fresh _ t.fresh (leb-false _ _ exists); held = t.held; waits = t.waits; apart = t.apart }) refl

use_gives : {X : Type 0} (i : Isa) (s : State) (x : X) (l k : ℕ) (bytes : List ℕ) → no_label s l ≡ false → Sound s → Gives s (x, append_use i s l k bytes)
use_gives i s x l k bytes exists t = record { holds = use_goes i s l k bytes exists t }

use_label_gives : (i : Isa) (s : State) (l k : ℕ) (bytes : List ℕ) → Sound s → Gives s (use_label_at_offset i s l k bytes)
use_label_gives i s l k bytes t = search (unless, gives_if, use_gives) depth 12

branch_gives : {X : Type 0} (i : Isa) (s : State) (x : X) (l k : ℕ) (bytes : List ℕ) (inverted : Option (List ℕ)) → no_label s l ≡ false → no_room s (length bytes) ≡ false → Sound s → Gives s (x, append_branch i s l k bytes inverted)
branch_gives i s x l k bytes inverted exists room t =
    let u = (use_goes i s l k bytes exists t).sound in
    record {
      holds = goes_beside s (append_branch i s l k bytes inverted) t (record {
        labels = u.labels;
        branches = All-push (BranchAmong (length s.labels)) s.branches _ t.branches (record { forward = omega arith; room = ltb-false _ _ room; target = leb-false _ _ exists });
        fresh = u.fresh;
        held = u.held;
        waits = u.waits;
        apart = u.apart;
      }) refl;
    }

add_branch_gives : (i : Isa) (s : State) (suits : Bool) (l k : ℕ) (bytes : List ℕ) (inverted : Option (List ℕ)) → Sound s → Gives s (add_branch i s suits l k bytes inverted)
add_branch_gives i s suits l k bytes inverted t = search (unless, gives_if, branch_gives) depth 14

-- islands and finishing
ended_gives : (s : State) (p : Progress) (o : Option Refusal) → Gets s p → Gives s (ended o p.state)
ended_gives s p None g = record { holds = g.holds }
ended_gives s p (Some e) g = record { holds = record { sound = g.holds.sound; later = g.holds.later } }

emit_island_gives : (i : Isa) (s : State) (distance : ℕ) → Sound s → Gives s (emit_island i s distance)
emit_island_gives i s distance k =
    let p = island i false distance s in
    let whole : Gives s (ended p.failed p.state) = ended_gives s p p.failed (island_gets i false distance s k) in
    search (unless, gives_if)

concluded_gives : (s : State) (p : Progress) (pool : List ℕ) (o : Option Refusal) → Gets s p → Gives s (concluded o p pool)
concluded_gives s p pool None g = record { holds = record { sound = g.holds.sound; later = g.holds.later } }
concluded_gives s p pool (Some e) g = record { holds = record { sound = g.holds.sound; later = g.holds.later } }

finish_gives : (i : Isa) (s : State) (force : Bool) (pool : List ℕ) (o : Option Refusal) → Sound s → Gives s (finish_unless o i s force pool)
finish_gives i s force pool None k = let p = all_islands i force s in concluded_gives s p pool p.failed (islands_get i force (2 + longest_chain i) s k)
finish_gives i s force pool (Some e) k = record { holds = goes_same s k }

-- each call
pub step_goes : (i : Isa) (s : State) (c : Call) → Sound s → Goes s (step i s c).1
step_goes i s GetLabel k = (get_label_gives s k).holds
step_goes i s (BindLabel l skip) k = (bind_label_gives i s l skip k).holds
step_goes i s (PutData trap bytes) k = (put_data_gives s trap bytes k).holds
step_goes i s (AlignTo n) k = (align_to_gives s n k).holds
step_goes i s (UseLabelAtOffset l j bytes) k = (use_label_gives i s l j bytes k).holds
step_goes i s (AddUncondBranch l j bytes) k = (add_branch_gives i s (is_jump i j bytes) l j bytes None k).holds
step_goes i s (AddCondBranch l j bytes inverted) k = (add_branch_gives i s (inversion i j bytes inverted) l j bytes (Some inverted) k).holds
step_goes i s (DeferTrap trap) k = (defer_trap_gives s trap k).holds
step_goes i s (RegisterConstant size align) k = (register_constant_gives i s size align k).holds
step_goes i s (GetLabelForConstant n) k = (get_label_for_constant_gives s n k).holds
step_goes i s (OptimizeBranches skip) k = (optimize_branches_gives s skip k).holds
step_goes i s StartPatchable k = (start_patchable_gives s k).holds
step_goes i s EndPatchable k = (close_gives s.opened s (length s.regions) k).holds
step_goes i s (EmitIsland distance) k = (emit_island_gives i s distance k).holds
step_goes i s (Finish force pool) k = (finish_gives i s force pool (unfit s pool) k).holds
step_goes i s CurOffset k = goes_same s k
step_goes i s (ResolveLabelOffset l) k = goes_same s k
step_goes i s (IslandNeeded distance) k = goes_same s k
