-- What holds of a new buffer, and is kept by everything that a call may do to the tables, holds after every list of calls.
use Rattle.std.proofs.Common.{◌≡◌, ℕ, ◌+◌, ◌%◌, ◌<◌, ◌≤◌, Bool, true, false, cond, not, ◌&&◌, ◌||◌, eqb, ltb, leb, List, [], ◌∷◌, ◌++◌, length, ℤ, pos, negsuc, IfSome, Some, None, Option, is_some, refl, ap, arith}
use lib.ListN.{length-replicate}
use Rattle.std.proofs.lemmas.Bool.{ltb-false, leb-false, eqb-true, and_parts, not-false, cond_both, false≢true, true≢false}
use Rattle.std.proofs.lemmas.Bool.Decides.{nat_tests}
use Rattle.isa.specs.declared.jumps.Role.{Role}
use Rattle.isa.specs.Isa.{Isa}
use Rattle.isa.specs.Patches.{inversion}
use Rattle.isa.specs.Roles.{opposite}
use Rattle.model.specs.declared.rows.Fixup.{Fixup}
use Rattle.model.specs.declared.rows.DeferredTrap.{DeferredTrap}
use Rattle.model.specs.declared.refusals.Refusal.{Refusal}
use Rattle.model.specs.Capacities.{max_code, max_labels, max_fixups, max_branches, max_traps, max_constants, max_requests, max_regions}
use Rattle.model.specs.State.{State, cur_offset, is_open, with_code, with_fresh, with_held, with_branches, with_deferred, with_constants, with_requested, with_regions, with_opened, with_broken, empty}
use Rattle.model.specs.Code.{zeros, padding, aligned, is_alignment}
use Rattle.model.specs.Full.{no_room, labels_full, fixups_full, branches_full, traps_full, constants_full, requests_full, regions_full}
use Rattle.model.specs.Fixups.{waiting, insert_held}
use Rattle.model.specs.Constants.{is_constant, constant_row, label_constant}
use Rattle.model.specs.Simplify.{simplified}
use Rattle.model.specs.Calls.{no_label, misaligned, add_label, is_taken, bind, add_trap, is_zero, is_use, append_use, append_branch, is_jump, is_unconditional, region_from, get_label, bind_label, put_data, align_to, use_label_at_offset, add_branch, defer_trap, register_constant, request, get_label_for_constant, optimize_branches, start_patchable, close}
use Rattle.model.specs.Progress.{Progress}
use Rattle.model.specs.Fates.{patch_fixup, add_veneer}
use Rattle.model.specs.Islands.{reset_deadline, write_trap, place_constant, island, ended, emit_island}
use Rattle.model.specs.Finish.{longest_chain, all_islands, filled, unfit, concluded, finish_unless}
use Rattle.model.specs.Steps.{Call, GetLabel, BindLabel, PutData, AlignTo, UseLabelAtOffset, AddUncondBranch, AddCondBranch, DeferTrap, RegisterConstant, GetLabelForConstant, OptimizeBranches, StartPatchable, EndPatchable, EmitIsland, Finish, CurOffset, ResolveLabelOffset, IslandNeeded, Answer, Finished, answered, step}
use Rattle.model.specs.Runs.{Run, begun, ends, next, run_from, run}
use Rattle.model.proofs.Passes.{Near, Veneered}
use Rattle.model.proofs.InIslands.{InIslands, island_holds, islands_hold}

-- what was found out before a label is bound
pub record Free (i : Isa) (s : State) (l : ℕ) : Type 0 where
  pub closed : is_open s ≡ false
  pub exists : l < length s.labels
  pub untaken : is_taken s l ≡ false
  pub aligned : cur_offset s % i.align ≡ 0

-- what was found out before bytes of a kind that refer to a label are appended
pub record Fits (i : Isa) (s : State) (l k : ℕ) (bytes : List ℕ) : Type 0 where
  pub closed : is_open s ≡ false
  pub exists : l < length s.labels
  pub kind : k < i.kinds
  pub long : length bytes ≡ i.size k
  pub aligned : cur_offset s % i.align ≡ 0
  pub waits : waiting s < max_fixups
  pub room : cur_offset s + length bytes ≤ max_code

-- what was found out before a constant is requested
pub record Unrequested (s : State) (n : ℕ) : Type 0 where
  pub exists : n < length s.constants
  pub free : (constant_row s n).label ≡ None

-- What a call may do, one thing after another, and that a property P of the tables outlasts it. Islands have no standing
-- branches. After finishing, R holds.
pub record Kept (i : Isa) (P R : State → Type 0) : Type 0 where
  pub label : (s : State) → P s → length s.labels < max_labels → P (add_label s false)
  pub bound : (s : State) (l : ℕ) → P s → Free i s l → P (bind s l)
  pub simple : (s : State) → P s → P (simplified false s)
  pub data_put : (s : State) (trap : ℕ) (bytes : List ℕ) → P s → (0 < trap → length s.traps + length s.deferred < max_traps) → cur_offset s + length bytes ≤ max_code → P (with_code (add_trap s trap) (s.code ++ bytes))
  pub used : (s : State) (l k : ℕ) (bytes : List ℕ) → P s → Fits i s l k bytes → (i.adds k ≡ true → i.reads k bytes ≡ pos 0) → P (append_use i s l k bytes)
  pub branched : (s : State) (l k : ℕ) (bytes : List ℕ) (inverted : Option (List ℕ)) → P s → Fits i s l k bytes → IfSome inverted (λ x. length x ≡ i.size k) → is_some (i.role k bytes) ≡ true → length s.branches < max_branches → P (append_branch i s l k bytes inverted)
  pub trap_deferred : (s : State) (trap : ℕ) → P s → length s.traps + length s.deferred < max_traps → length s.labels < max_labels → P (with_deferred (add_label s true) (s.deferred ++ record { label = length s.labels; code = trap } ∷ []))
  pub registered : (s : State) (size align : ℕ) → P s → is_constant i size align ≡ true → length s.constants < max_constants → P (with_constants s (s.constants ++ record { size = size; align = align; label = None } ∷ []))
  pub requested : (s : State) (n : ℕ) → P s → Unrequested s n → length s.requested + length s.placed < max_requests → length s.labels < max_labels → P (with_requested (with_constants (add_label s true) (label_constant s n (Some (length s.labels)))) (s.requested ++ n ∷ []))
  pub opened : (s : State) → P s → length s.regions < max_regions → P (with_opened s (Some (cur_offset s)))
  pub closed : (s : State) (start : ℕ) → P s → s.opened ≡ Some start → P (with_regions (with_opened s None) (s.regions ++ region_from s start ∷ []))
  pub forgot : (s : State) → P s → P (with_branches s [])
  pub patched_fresh : (s : State) (f : Fixup) (fs : List Fixup) (place : ℕ) → P s → s.branches ≡ [] → s.fresh ≡ f ∷ fs → Near i s f place → P (with_code (with_fresh s fs) (patch_fixup i s f place))
  pub veneered_fresh : (s : State) (f : Fixup) (fs : List Fixup) (at : ℕ) → P s → s.branches ≡ [] → s.fresh ≡ f ∷ fs → Veneered i s f at → P (add_veneer i (with_fresh s fs) f at)
  pub put_aside : (s : State) (f : Fixup) (fs : List Fixup) → P s → s.branches ≡ [] → s.fresh ≡ f ∷ fs → P (with_held (with_fresh s fs) (insert_held f s.held))
  pub patched_held : (s : State) (f : Fixup) (fs : List Fixup) (place : ℕ) → P s → s.branches ≡ [] → s.held ≡ f ∷ fs → Near i s f place → P (with_code (with_held s fs) (patch_fixup i s f place))
  pub veneered_held : (s : State) (f : Fixup) (fs : List Fixup) (at : ℕ) → P s → s.branches ≡ [] → s.held ≡ f ∷ fs → Veneered i s f at → P (add_veneer i (with_held s fs) f at)
  pub deadline_reset : (s : State) → P s → P (reset_deadline i s)
  pub trap_written : (s : State) (d : DeferredTrap) (ds : List DeferredTrap) → P s → s.branches ≡ [] → s.deferred ≡ d ∷ ds → aligned i.align (cur_offset s) + length i.trap ≤ max_code → P (write_trap i (with_deferred s ds) d (aligned i.align (cur_offset s)))
  pub constant_placed : (s : State) (n : ℕ) (ns : List ℕ) → P s → s.branches ≡ [] → s.requested ≡ n ∷ ns → aligned (constant_row s n).align (cur_offset s) + (constant_row s n).size ≤ max_code → P (place_constant (with_requested s ns) n (aligned (constant_row s n).align (cur_offset s)))
  pub broke_off : (s : State) → P s → P (with_broken s true)
  pub at_end : (s : State) → P s → R s
  pub pool_copied : (s : State) (pool : List ℕ) → P s → R (with_code s (filled s pool s.placed s.code))

-- the tables after a call have the property
record After {X : Type 0} (P : State → Type 0) (x : X × State) : Type 0 where
  holds : P x.1

-- unless a test turns the call away, what comes next keeps the property
unless : {X : Type 0} (P : State → Type 0) (b : Bool) (x : X) (s : State) (y : X × State) → P s → (b ≡ false → After P y) → After P (cond b (x, s) y)
unless P true x s y p q = record { holds = p }
unless P false x s y p q = q refl

-- a displacement that is 0
zero_is : (d : ℤ) → is_zero d ≡ true → d ≡ pos 0
zero_is (pos n) e = ap pos (eqb-true n 0 e)
zero_is (negsuc n) e = absurd (false≢true e)

jump_is_branch : (r : Option Role) → is_unconditional r ≡ true → is_some r ≡ true
jump_is_branch None e = e
jump_is_branch (Some r) e = refl

opposite-is_branch : (r t : Option Role) → opposite r t ≡ true → is_some r ≡ true
opposite-is_branch None t e = e
opposite-is_branch (Some r) t e = refl

-- the bytes of an adding kind read 0
adding_reads : (a : Bool) (d : ℤ) → (not a || is_zero d) ≡ true → a ≡ true → d ≡ pos 0
adding_reads true d e h = zero_is d e
adding_reads false d e h = absurd (false≢true h)

-- where bytes may trap, there is room for the record
room_for_trap : (trap n m : ℕ) → (ltb 0 trap && leb m n) ≡ false → 0 < trap → n < m
room_for_trap trap n m e h = grind (arith, nat_tests)

module _ {i : Isa} {P R : State → Type 0} (w : Kept i P R) where
  get_label_keeps : (s : State) → P s → After P (get_label s)
  get_label_keeps s p = unless P s.broken _ s _ p (λ _. unless P (labels_full s) _ s _ p (λ e. record { holds = w.label s p (leb-false _ _ e) }))

  simplified_keeps : (skip : Bool) (s : State) → P s → P (simplified skip s)
  simplified_keeps true s p = p
  simplified_keeps false s p = w.simple s p

  bind_label_keeps : (s : State) (l : ℕ) (skip : Bool) → P s → After P (bind_label i s l skip)
  bind_label_keeps s l skip p =
      unless P s.broken _ s _ p (λ _. unless P (is_open s) _ s _ p (λ shut. unless P (no_label s l) _ s _ p (λ known. unless P (is_taken s l) _ s _ p (λ taken. unless P (misaligned i s) _ s _ p (λ e.
      record { holds = simplified_keeps skip (bind s l) (w.bound s l p (record { closed = shut; exists = leb-false _ _ known; untaken = taken; aligned = eqb-true _ _ (not-false _ e) })) })))))

  put_data_keeps : (s : State) (trap : ℕ) (bytes : List ℕ) → P s → After P (put_data s trap bytes)
  put_data_keeps s trap bytes p =
      unless P s.broken _ s _ p (λ _. unless P (ltb 255 trap || (ltb 0 trap && eqb (length bytes) 0)) _ s _ p (λ _. unless P (ltb 0 trap && traps_full s) _ s _ p (λ full. unless P (no_room s (length bytes)) _ s _ p (λ room.
      record { holds = w.data_put s trap bytes p (room_for_trap _ _ _ full) (ltb-false _ _ room) }))))

  align_to_keeps : (s : State) (n : ℕ) → P s → After P (align_to s n)
  align_to_keeps s n p =
      unless P s.broken _ s _ p (λ _. unless P (not (is_alignment n)) _ s _ p (λ _. unless P (no_room s (padding n (cur_offset s))) _ s _ p (λ room.
      record { holds = w.data_put s 0 (zeros (padding n (cur_offset s))) p (λ t. omega arith) (rw length-replicate (ltb-false _ _ room)) })))

  use_keeps : (s : State) (l k : ℕ) (bytes : List ℕ) → P s → After P (use_label_at_offset i s l k bytes)
  use_keeps s l k bytes p =
      unless P s.broken _ s _ p (λ _. unless P (is_open s) _ s _ p (λ shut. unless P (no_label s l) _ s _ p (λ known. unless P (leb i.kinds k) _ s _ p (λ kind. unless P (not (is_use i k bytes)) _ s _ p (λ fit.
      unless P (misaligned i s) _ s _ p (λ at. unless P (fixups_full s) _ s _ p (λ full. unless P (no_room s (length bytes)) _ s _ p (λ room.
      let parts = and_parts (eqb (length bytes) (i.size k)) _ (not-false _ fit) in
      record {
        holds = w.used s l k bytes p
            (record { closed = shut; exists = leb-false _ _ known; kind = leb-false _ _ kind; long = eqb-true _ _ parts.0; aligned = eqb-true _ _ (not-false _ at); waits = leb-false _ _ full; room = ltb-false _ _ room })
            (adding_reads _ _ parts.1);
      }))))))))

  branch_keeps : (s : State) (suits : Bool) (l k : ℕ) (bytes : List ℕ) (inverted : Option (List ℕ)) → (suits ≡ true → (length bytes ≡ i.size k) × IfSome inverted (λ x. length x ≡ i.size k) × (is_some (i.role k bytes) ≡ true)) → P s → After P (add_branch i s suits l k bytes inverted)
  branch_keeps s suits l k bytes inverted h p =
      unless P s.broken _ s _ p (λ _. unless P (is_open s) _ s _ p (λ shut. unless P (no_label s l) _ s _ p (λ known. unless P (leb i.kinds k) _ s _ p (λ kind. unless P (not suits) _ s _ p (λ suit.
      unless P (misaligned i s) _ s _ p (λ at. unless P (fixups_full s) _ s _ p (λ full. unless P (branches_full s) _ s _ p (λ many. unless P (no_room s (length bytes)) _ s _ p (λ room.
      let x = h (not-false _ suit) in
      record {
        holds = w.branched s l k bytes inverted p
            (record { closed = shut; exists = leb-false _ _ known; kind = leb-false _ _ kind; long = x.0; aligned = eqb-true _ _ (not-false _ at); waits = leb-false _ _ full; room = ltb-false _ _ room })
            x.1 x.2 (leb-false _ _ many);
      })))))))))

  defer_trap_keeps : (s : State) (trap : ℕ) → P s → After P (defer_trap s trap)
  defer_trap_keeps s trap p =
      unless P s.broken _ s _ p (λ _. unless P (eqb trap 0 || ltb 255 trap) _ s _ p (λ _. unless P (traps_full s) _ s _ p (λ many. unless P (labels_full s) _ s _ p (λ full.
      record { holds = w.trap_deferred s trap p (leb-false _ _ many) (leb-false _ _ full) }))))

  register_keeps : (s : State) (size align : ℕ) → P s → After P (register_constant i s size align)
  register_keeps s size align p =
      unless P s.broken _ s _ p (λ _. unless P (not (is_constant i size align)) _ s _ p (λ e. unless P (constants_full s) _ s _ p (λ full.
      record { holds = w.registered s size align p (not-false _ e) (leb-false _ _ full) })))

  requested_keeps : (o : Option ℕ) (s : State) (n : ℕ) → (constant_row s n).label ≡ o → n < length s.constants → P s → After P (request o s n)
  requested_keeps (Some l) s n free h p = record { holds = p }
  requested_keeps None s n free h p =
      unless P (requests_full s) _ s _ p (λ many. unless P (labels_full s) _ s _ p (λ full.
      record { holds = w.requested s n p (record { exists = h; free = free }) (leb-false _ _ many) (leb-false _ _ full) }))

  request_keeps : (s : State) (n : ℕ) → P s → After P (get_label_for_constant s n)
  request_keeps s n p =
      unless P s.broken _ s _ p (λ _. unless P (leb (length s.constants) n) _ s _ p (λ e. requested_keeps (constant_row s n).label s n refl (leb-false _ _ e) p))

  optimize_keeps : (s : State) (skip : Bool) → P s → After P (optimize_branches s skip)
  optimize_keeps s skip p = unless P s.broken _ s _ p (λ _. unless P (is_open s) _ s _ p (λ _. record { holds = simplified_keeps skip s p }))

  start_keeps : (s : State) → P s → After P (start_patchable s)
  start_keeps s p = unless P s.broken _ s _ p (λ _. unless P (is_open s) _ s _ p (λ _. unless P (regions_full s) _ s _ p (λ full. record { holds = w.opened s p (leb-false _ _ full) })))

  close_keeps : (o : Option ℕ) (s : State) (n : ℕ) → s.opened ≡ o → P s → After P (close o s n)
  close_keeps None s n e p = record { holds = p }
  close_keeps (Some start) s n e p = unless P (not (eqb n (length s.regions))) _ s _ p (λ _. record { holds = w.closed s start p e })

  -- what an island does is among it
  pub within_islands : InIslands i P
  within_islands = record {
    forgot = w.forgot;
    patched_fresh = w.patched_fresh;
    veneered_fresh = w.veneered_fresh;
    put_aside = w.put_aside;
    patched_held = w.patched_held;
    veneered_held = w.veneered_held;
    deadline_reset = w.deadline_reset;
    trap_written = w.trap_written;
    constant_placed = w.constant_placed;
  }

  ended_keeps : (o : Option Refusal) (s : State) → P s → After P (ended o s)
  ended_keeps None s p = record { holds = p }
  ended_keeps (Some e) s p = record { holds = w.broke_off s p }

  emit_island_keeps : (s : State) (distance : ℕ) → P s → After P (emit_island i s distance)
  emit_island_keeps s distance p =
      let x = island i false distance s in
      unless P s.broken _ s _ p (λ _. unless P (is_open s) _ s _ p (λ _. ended_keeps x.failed x.state (island_holds within_islands false distance s p)))

  -- after a call that goes on building the property holds, and after finishing what follows from it
  record Later (x : Answer × State) : Type 0 where
    building : ends x.0 ≡ false → P x.1
    after : R x.1

  later : (a : Answer) (s : State) → P s → Later (a, s)
  later a s p = record { building = λ _. p; after = w.at_end s p }

  concluded_later : (o : Option Refusal) (p : Progress) (pool : List ℕ) → P p.state → Later (answered Finished (concluded o p pool))
  concluded_later None p pool h = record { building = λ e. absurd (true≢false e); after = w.pool_copied p.state pool h }
  concluded_later (Some e) p pool h = later _ (with_broken p.state true) (w.broke_off p.state h)

  finish_later : (o : Option Refusal) (s : State) (force : Bool) (pool : List ℕ) → P s → Later (answered Finished (finish_unless o i s force pool))
  finish_later None s force pool p = let x = all_islands i force s in concluded_later x.failed x pool (islands_hold within_islands force (2 + longest_chain i) s p)
  finish_later (Some e) s force pool p = later _ s p

  -- each call
  step_later : (s : State) (c : Call) → P s → Later (step i s c)
  step_later s GetLabel p = later _ _ (get_label_keeps s p).holds
  step_later s (BindLabel l skip) p = later _ _ (bind_label_keeps s l skip p).holds
  step_later s (PutData trap bytes) p = later _ _ (put_data_keeps s trap bytes p).holds
  step_later s (AlignTo n) p = later _ _ (align_to_keeps s n p).holds
  step_later s (UseLabelAtOffset l k bytes) p = later _ _ (use_keeps s l k bytes p).holds
  step_later s (AddUncondBranch l k bytes) p =
      later _ _ (branch_keeps s (is_jump i k bytes) l k bytes None (λ e. let x = and_parts _ _ e in (eqb-true _ _ x.0, tt, jump_is_branch _ x.1)) p).holds
  step_later s (AddCondBranch l k bytes inverted) p =
      later _ _ (branch_keeps s (inversion i k bytes inverted) l k bytes (Some inverted) (λ e.
      let x = and_parts _ _ e in let y = and_parts _ _ x.1 in let z = and_parts _ _ y.1 in (eqb-true _ _ x.0, eqb-true _ _ y.0, opposite-is_branch _ _ z.0)) p).holds
  step_later s (DeferTrap trap) p = later _ _ (defer_trap_keeps s trap p).holds
  step_later s (RegisterConstant size align) p = later _ _ (register_keeps s size align p).holds
  step_later s (GetLabelForConstant n) p = later _ _ (request_keeps s n p).holds
  step_later s (OptimizeBranches skip) p = later _ _ (optimize_keeps s skip p).holds
  step_later s StartPatchable p = later _ _ (start_keeps s p).holds
  step_later s EndPatchable p = later _ _ (close_keeps s.opened s (length s.regions) refl p).holds
  step_later s (EmitIsland distance) p = later _ _ (emit_island_keeps s distance p).holds
  step_later s (Finish force pool) p = finish_later (unfit s pool) s force pool p
  step_later s CurOffset p = later _ s p
  step_later s (ResolveLabelOffset l) p = later _ s p
  step_later s (IslandNeeded distance) p = later _ s p

  -- a run so far
  record Reached (r : Run) : Type 0 where
    building : r.finished ≡ false → P r.state
    after : R r.state

  next_reached : (r : Run) (c : Call) → Reached r → Reached (next i r c)
  next_reached r c h = cond_both r.finished _ _ Reached (λ _. h) (λ e. let l = step_later r.state c (h.building e) in record { building = l.building; after = l.after })

  run_reached : (r : Run) (cs : List Call) → Reached r → Reached (run_from i r cs)
  run_reached r [] h = h
  run_reached r (c ∷ cs) h = run_reached (next i r c) cs (next_reached r c h)

  reached_from : P empty → (cs : List Call) → Reached (run i cs)
  reached_from p cs = run_reached begun cs (record { building = λ _. p; after = w.at_end empty p })

  -- P holds after every list of calls that has not finished the buffer, and R after every list
  pub while_building : P empty → (cs : List Call) → (run i cs).finished ≡ false → P (run i cs).state
  while_building p cs = (reached_from p cs).building

  pub always : P empty → (cs : List Call) → R (run i cs).state
  always p cs = (reached_from p cs).after
