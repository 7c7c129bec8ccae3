-- After every list of calls to a lawful set, the uses that wait are in place, and the code is not too long.
use Rattle.std.proofs.Common.{◌≡◌, ℕ, ◌+◌, ◌-◌, ◌%◌, ◌<◌, ◌≤◌, Bool, true, false, ◌&&◌, ltb, leb, List, [], ◌∷◌, ◌++◌, map, length, get_or, take, drop, set, pos, IfSome, Some, None, Option, is_some, sym, refl, ap, ◌∙◌, subst, ⊎_elim, append_assoc, arith, length-append, length-set, length-take}
use lib.IntN.{sub_ℕ}
use lib.ListN.{length-replicate}
use Rattle.std.specs.List.{AllByRecursion}
use Rattle.std.proofs.lemmas.List.{get_or-take, get_or_append_left, get_or_push, get_or-set_same, get_or-set_other, get_or_past, drop_at, take_all}
use Rattle.std.proofs.ByRecursion.{All-get_or, All-from_get_or, All-push, All-weaker, All-take, All-set, All-map}
use Rattle.std.proofs.lemmas.Bool.{and_parts, leb-true, cases_lt, cases_eq, cond_both, cases_Bool, false≢true}
use Rattle.isa.specs.Isa.{Isa, bytes_at, patched_at}
use Rattle.isa.specs.Laws.{OfKind, VeneerBounds, Lawful}
use Rattle.model.specs.declared.rows.Label.{Label}
use Rattle.model.specs.declared.rows.Place.{Place}
use Rattle.model.specs.declared.rows.Place.TheVariants.{At, AliasOf}
use Rattle.model.specs.declared.rows.Fixup.{Fixup}
use Rattle.model.specs.declared.rows.Branch.{Branch}
use Rattle.model.specs.declared.rows.Constant.{Constant}
use Rattle.model.specs.declared.rows.DeferredTrap.{DeferredTrap}
use Rattle.model.specs.declared.rows.PlacedConstant.{PlacedConstant}
use Rattle.model.specs.Capacities.{max_code, max_branches, max_constants, max_requests, max_labels}
use Rattle.model.specs.State.{State, empty, cur_offset, with_code, with_fresh, with_held, with_branches, with_requested, with_constants, with_deferred}
use Rattle.model.specs.Code.{zeros, is_alignment, aligned, padded_to, overwritten}
use Rattle.model.specs.Labels.{unbound, label_row, offset_in, is_at, root, bound_at, bound_if, moved, aliased}
use Rattle.model.specs.Fixups.{fixup_at, insert_held}
use Rattle.model.specs.Constants.{is_constant, constant_row, label_constant}
use Rattle.model.specs.Simplify.{no_branch, no_fixup, last_branch, cut, redirect, relabelled, turned, bytes_of, turn}
use Rattle.model.specs.Calls.{add_label, append_use, append_branch}
use Rattle.model.specs.Fates.{patch_fixup, own_fixup, add_veneer}
use Rattle.model.specs.Islands.{write_trap, place_constant}
use Rattle.model.specs.Finish.{pooled, filled}
use Rattle.model.specs.Standing.{Stands, AllStand}
use Rattle.model.specs.Uses.{InPlace, Uses}
use Rattle.model.specs.Steps.{Call}
use Rattle.model.specs.Runs.{run}
use Rattle.model.proofs.Overwritten.{length-overwritten}
use Rattle.model.proofs.Rounds.{Taken, RulesKeep, simplified_keeps}
use Rattle.model.proofs.Passes.{Near, Veneered}
use Rattle.model.proofs.Kept.{Fits, Unrequested, Kept, while_building, always}
use Rattle.model.proofs.Steady.{Steady, last_stands, forgot_steady, rules_keep_steady, calls_keep_steady, run_steady}
use Rattle.model.proofs.Settled.{Below, cut_below, turned_within, turn_below}
use Rattle.model.proofs.Multiples.{sum_multiple, multiple_of, aligned_multiple, some_alignment, alignment_multiple, some_is_alignment}
use Rattle.model.proofs.Uses.{part_appended, patchable, order_at, uses_more, uses_append, uses_put_aside, uses_fresh_done, uses_held_done, uses_cut, uses_turned}

-- a label stands at a multiple of the alignment, or nowhere
abbrev pub LabelWhole : Isa → Option ℕ → Type 0
LabelWhole i None = Unit {0}
LabelWhole i (Some at) = at % i.align ≡ 0

abbrev pub LabelsWhole : Isa → List Label → Type 0
LabelsWhole i ls = AllByRecursion (λ (x : Label). LabelWhole i (offset_in x.place)) ls

-- a constant's alignment is a multiple of the set's
pub record ConstantWhole (i : Isa) (c : Constant) : Type 0 where
  pub some : 0 < c.align
  pub whole : c.align % i.align ≡ 0

-- a placed constant lies before all standing branches
pub record PlacedBelow (s : State) (p : PlacedConstant) : Type 0 where
  pub known : p.number < length s.constants
  pub below : Below (p.offset + (constant_row s p.number).size) s

-- a fixup is a branch's use: it has the same bytes, and its kind does not add
pub record Serves (i : Isa) (f : Fixup) (b : Branch) : Type 0 where
  pub at : f.offset ≡ b.start
  pub wide : b.start + i.size f.kind ≡ b.end
  pub no_sum : i.adds f.kind ≡ false

-- and it is the one that the branch names
abbrev pub Served : Isa → List Fixup → Branch → Type 0
Served i fresh b = Serves i (get_or fresh b.fixup no_fixup) b

-- what holds of the tables while a buffer is built
pub record Orderly (i : Isa) (s : State) : Type 0 where
  pub room : length s.code ≤ max_code
  pub steady : Steady s
  pub labels_whole : LabelsWhole i s.labels
  pub constants_whole : AllByRecursion (ConstantWhole i) s.constants
  pub requests_known : AllByRecursion (λ (n : ℕ). n < length s.constants) s.requested
  pub placed_below : AllByRecursion (PlacedBelow s) s.placed
  pub uses : Uses i s.code s.held s.fresh
  pub served : AllByRecursion (Served i s.fresh) s.branches

-- a new label
unbound_whole : (i : Isa) (ls : List Label) (reserved : Bool) → LabelsWhole i ls → LabelsWhole i (ls ++ unbound reserved ∷ [])
unbound_whole i ls reserved a = All-push (λ (x : Label). LabelWhole i (offset_in x.place)) ls (unbound reserved) a tt

-- a label that is bound
bound_whole : (i : Isa) (ls : List Label) (l at : ℕ) → at % i.align ≡ 0 → LabelsWhole i ls → LabelsWhole i (bound_at ls l at)
bound_whole i ls l at h a = All-set (λ (x : Label). LabelWhole i (offset_in x.place)) ls l _ h a

bound_if_whole : (i : Isa) (ls : List Label) (o : Option ℕ) (at : ℕ) → at % i.align ≡ 0 → LabelsWhole i ls → LabelsWhole i (bound_if ls o at)
bound_if_whole i ls None at h a = a
bound_if_whole i ls (Some l) at h a = bound_whole i ls l at h a

-- what a label resolves to
pub resolved_whole : (i : Isa) (ls : List Label) (n : ℕ) → LabelsWhole i ls → LabelWhole i (offset_in (label_row ls n).place)
resolved_whole i ls n a = ⊎_elim
    (λ (l : n < length ls). All-get_or (λ (x : Label). LabelWhole i (offset_in x.place)) ls n (unbound false) l a)
    (λ (l : length ls ≤ n). rw (get_or_past ls n (unbound false) l) tt)
    (cases_lt n (length ls))

moved_whole : (i : Isa) (from to : ℕ) → to % i.align ≡ 0 → (ls : List Label) → LabelsWhole i ls → LabelsWhole i (map (moved from to) ls)
moved_whole i from to h ls a = All-map (λ (x : Label). LabelWhole i (offset_in x.place)) (moved from to) ls (All-weaker _ _ (λ x p. cond_both (is_at from x.place) (At to) x.place (λ (q : Place). LabelWhole i (offset_in q)) (λ _. h) (λ _. p)) ls a)

aliased_whole : (i : Isa) (from target : ℕ) (ls : List Label) → LabelsWhole i ls → LabelsWhole i (map (aliased from target) ls)
aliased_whole i from target ls a = All-map (λ (x : Label). LabelWhole i (offset_in x.place)) (aliased from target) ls (All-weaker _ _ (λ x p. cond_both (is_at from x.place) (AliasOf target) x.place (λ (q : Place). LabelWhole i (offset_in q)) (λ _. tt) (λ _. p)) ls a)

-- the same uses serve as long as they keep their place and kind
record Alike (f g : Fixup) : Type 0 where
  offset : f.offset ≡ g.offset
  kind : f.kind ≡ g.kind

same_alike : (f g : Fixup) → f ≡ g → Alike f g
same_alike f g e = record { offset = ap (λ (x : Fixup). x.offset) e; kind = ap (λ (x : Fixup). x.kind) e }

served_alike : (i : Isa) (c n : ℕ) (fresh gs : List Fixup) (bs : List Branch) → AllStand c n bs → ((k : ℕ) → k < n → Alike (get_or gs k no_fixup) (get_or fresh k no_fixup)) → AllByRecursion (Served i fresh) bs → AllByRecursion (Served i gs) bs
served_alike i c n fresh gs bs all same a = All-from_get_or (Served i gs) bs no_branch (λ k h.
    let b = get_or bs k no_branch in
    let s = All-get_or (Served i fresh) bs k no_branch h a in
    let e : Alike (get_or gs b.fixup no_fixup) (get_or fresh b.fixup no_fixup) = same b.fixup (all k h).waits in
    record { at = e.offset ∙ s.at; wide = rw e.kind s.wide; no_sum = rw e.kind s.no_sum })

-- a placed constant stays below
placed_kept : (s r : State) (ps : List PlacedConstant) → length s.constants ≤ length r.constants → ((n : ℕ) → n < length s.constants → (constant_row r n).size ≡ (constant_row s n).size) → ((n : ℕ) → Below n s → Below n r) → AllByRecursion (PlacedBelow s) ps → AllByRecursion (PlacedBelow r) ps
placed_kept s r ps more same below a = All-weaker (PlacedBelow s) (PlacedBelow r) (λ p k. record { known = omega (arith, k.known); below = rw (same p.number k.known) (below _ k.below) }) ps a

still_known : (n m : ℕ) (ns : List ℕ) → n ≤ m → AllByRecursion (λ (x : ℕ). x < n) ns → AllByRecursion (λ (x : ℕ). x < m) ns
still_known n m ns h a = All-weaker _ _ (λ x l. omega arith) ns a

-- the alignment that a constant may have
constant_alignment : (i : Isa) (size align : ℕ) → is_constant i size align ≡ true → (is_alignment align ≡ true) × (i.align ≤ align)
constant_alignment i size align e = let x = and_parts (ltb 0 size && leb size 256 && is_alignment align) _ e in ((and_parts (ltb 0 size && leb size 256) _ x.0).1, leb-true _ _ x.1)

module _ (i : Isa) (y : Lawful i) where
  -- the use of a standing branch is in place
  served_in_place : (s : State) (n : ℕ) → n < length s.branches → Orderly i s → let b = get_or s.branches n no_branch in let f = get_or s.fresh b.fixup no_fixup in Serves i f b × InPlace i s.code f
  served_in_place s n h o =
      let b = get_or s.branches n no_branch in
      let z : Stands (length s.code) (length s.fresh) s.branches n = o.steady.stand n h in
      (All-get_or (Served i s.fresh) s.branches n no_branch h o.served, All-get_or (InPlace i s.code) s.fresh b.fixup no_fixup z.waits o.uses.fresh_in_place)

  -- the branch that a round takes has the last fresh fixup
  last_fixup : (s : State) → Orderly i s → Taken s → (last_branch s).fixup ≡ length s.fresh - 1
  last_fixup s o t =
      let n = length s.branches - 1 in
      let b = last_branch s in
      let z = last_stands s o.steady t in
      let v = served_in_place s n (omega (arith, t.some)) o in
      let m = length s.fresh - 1 in
      ⊎_elim
      (λ (less : b.fixup < m).
      let l = All-get_or (InPlace i s.code) s.fresh m no_fixup (omega arith) o.uses.fresh_in_place in
      absurd (omega (arith, order_at i s.fresh b.fixup m less (omega arith) o.uses.fresh_in_order, v.0.at, v.0.wide, t.at_end, l.within, (y.kind_bounds _ l.kind).size_low)))
      (λ (more : m ≤ b.fixup). omega (arith, z.waits))
      (cases_lt b.fixup m)

  cut_orderly : (s : State) → Orderly i s → Taken s → Orderly i (cut s)
  cut_orderly s o t =
      let n = length s.branches - 1 in
      let m = length s.fresh - 1 in
      let b = last_branch s in
      let z = last_stands s o.steady t in
      let e = last_fixup s o t in
      let v = served_in_place s n (omega (arith, t.some)) o in
      let at : (get_or s.fresh m no_fixup).offset ≡ b.start = rw (← e) v.0.at in
      let k : Steady (cut s) = rules_keep_steady.cuts s o.steady t in
      record {
        room = simp length-take (omega (arith, o.room));
        steady = k;
        labels_whole = moved_whole i (cur_offset s) b.start (rw v.0.at at v.1.whole) s.labels o.labels_whole;
        constants_whole = o.constants_whole;
        requests_known = o.requests_known;
        placed_below = placed_kept s (cut s) s.placed (omega arith) (λ _ _. refl) (λ x p. cut_below x s o.steady t p) o.placed_below;
        uses = rw at at (uses_cut i s.code s.held s.fresh (omega (arith, z.waits)) o.uses);
        served = served_alike i _ _ s.fresh (take m s.fresh) _ k.stand (λ x h. same_alike _ _ (get_or-take m s.fresh x no_fixup (omega (arith, length-take m s.fresh)))) (All-take (Served i s.fresh) n s.branches o.served);
      }

  -- a fixup with another label is like it was
  relabelled_alike : (fresh : List Fixup) (n l k : ℕ) → n < length fresh → Alike (get_or (set fresh n (relabelled (get_or fresh n no_fixup) l)) k no_fixup) (get_or fresh k no_fixup)
  relabelled_alike fresh n l k h = ⊎_elim
      (λ (e : k ≡ n). rw (e, get_or-set_same fresh n (relabelled (get_or fresh n no_fixup) l) no_fixup h) (record { offset = refl; kind = refl }))
      (λ (d : k ≡ n → ⊥). same_alike _ _ (get_or-set_other fresh n k (relabelled (get_or fresh n no_fixup) l) no_fixup d))
      (cases_eq k n)

  turn_orderly : (s : State) (n l : ℕ) → n < length s.branches → Orderly i s → Steady (turn s n l) → Orderly i (turn s n l)
  turn_orderly s n l h o k =
      let b = turned (get_or s.branches n no_branch) l in
      let z : Stands (length s.code) (length s.fresh) s.branches n = o.steady.stand n h in
      let v = served_in_place s n h o in
      let f = get_or s.fresh b.fixup no_fixup in
      let long : length (bytes_of b) ≤ i.size f.kind = simp length-take (omega (arith, v.0.wide)) in
      record {
        room = rw (length-overwritten s.code (bytes_of b) b.start (turned_within s n l h o.steady)) o.room;
        steady = k;
        labels_whole = o.labels_whole;
        constants_whole = o.constants_whole;
        requests_known = o.requests_known;
        placed_below = placed_kept s (turn s n l) s.placed (omega arith) (λ _ _. refl) (λ x p. turn_below x s n l h o.steady p) o.placed_below;
        uses = subst (λ (x : ℕ). Uses i (overwritten s.code x (bytes_of b)) s.held (set s.fresh b.fixup (relabelled f l))) v.0.at (uses_turned i s.code (bytes_of b) s.held s.fresh b.fixup l z.waits long v.0.no_sum o.uses);
        served = served_alike i _ _ s.fresh _ _ k.stand (λ x _. relabelled_alike s.fresh b.fixup l x z.waits)
            (All-set (Served i s.fresh) s.branches n b (record { at = v.0.at; wide = v.0.wide; no_sum = v.0.no_sum }) o.served);
      }

  rules_keep_orderly : RulesKeep (Orderly i)
  rules_keep_orderly = record {
    cuts = cut_orderly;
    redirects = λ s o t. record {
      room = o.room;
      steady = rules_keep_steady.redirects s o.steady t;
      labels_whole = aliased_whole i (last_branch s).start (last_branch s).target s.labels o.labels_whole;
      constants_whole = o.constants_whole;
      requests_known = o.requests_known;
      placed_below = placed_kept s (redirect s) s.placed (omega arith) (λ _ _. refl) (λ x p. record { within = p.within; starts = p.starts }) o.placed_below;
      uses = o.uses;
      served = o.served;
    };
    turns = λ s o t a. turn_orderly (cut s) (length s.branches - 2) (last_branch s).target (simp length-take (omega (arith, a.two))) (cut_orderly s o t) (rules_keep_steady.turns s o.steady t a);
  }

  forgot_orderly : (s : State) → Orderly i s → Orderly i (with_branches s [])
  forgot_orderly s o = record {
    room = o.room;
    steady = forgot_steady s o.steady;
    labels_whole = o.labels_whole;
    constants_whole = o.constants_whole;
    requests_known = o.requests_known;
    placed_below = placed_kept s (with_branches s []) s.placed (omega arith) (λ _ _. refl) (λ x p. record { within = p.within; starts = tt }) o.placed_below;
    uses = o.uses;
    served = tt;
  }

  -- a use patched to a multiple of the alignment that is near enough: as many new bytes in its place
  record Rewritten (code : List ℕ) (f : Fixup) (to : ℕ) : Type 0 where
    bytes : List ℕ
    long : length bytes ≡ i.size f.kind
    same : patched_at i f.kind code f.offset (sub_ℕ to f.offset) ≡ overwritten code f.offset bytes

  rewritten : (code : List ℕ) (f : Fixup) (to : ℕ) → InPlace i code f → to % i.align ≡ 0 → to - f.offset ≤ i.max_pos f.kind → f.offset - to ≤ i.max_neg f.kind → Rewritten code f to
  rewritten code f to p h ahead behind =
      let e = y.patched_long f.kind _ _ (patchable i code f to p h ahead behind) in
      record { bytes = i.patched f.kind (bytes_at i f.kind code f.offset) (sub_ℕ to f.offset); long = e; same = rw e }

  -- code that is padded, and what comes after it
  padded_more : (code more : List ℕ) (at : ℕ) → padded_to code at ++ more ≡ code ++ (zeros (at - length code) ++ more)
  padded_more code more at = append_assoc code (zeros (at - length code)) more

  length_padded : (code more : List ℕ) (at : ℕ) → length code ≤ at → length (padded_to code at ++ more) ≡ at + length more
  length_padded code more at h = simp (length-append, length-replicate) (omega arith)

  -- the veneer of a use, and its own use in it
  own_in_place : (code : List ℕ) (f : Fixup) (at : ℕ) → f.kind < i.kinds → i.supports f.kind ≡ true → at % i.align ≡ 0 → length code ≤ at → InPlace i (padded_to code at ++ (i.veneer f.kind).code) (own_fixup i f at)
  own_in_place code f at k v h l =
      let x : VeneerBounds i f.kind (i.veneer f.kind) = y.veneer_bounds f.kind k v in
      let w = i.veneer f.kind in
      let e : length (padded_to code at) ≡ at = simp (length-append, length-replicate) (omega arith) in
      record {
        kind = x.own_kind;
        whole = sum_multiple at w.place i.align h x.own_aligned;
        within = rw (length_padded code w.code at l) (omega (arith, x.own_within));
        unpatched = λ _. ap (λ (b : List ℕ). i.reads w.own b) (ap (λ (n : ℕ). take (i.size w.own) (drop (n + w.place) (padded_to code at ++ w.code))) (sym e) ∙ part_appended (padded_to code at) w.code w.place (i.size w.own)) ∙ x.own_reads_0;
        due = refl;
      }

  -- the constants and branches stay, and the code gets no shorter
  carried : (s r : State) → Orderly i s → r.constants ≡ s.constants → r.requested ≡ s.requested → r.placed ≡ s.placed → r.branches ≡ s.branches → length s.code ≤ length r.code
      → length r.code ≤ max_code → Steady r → LabelsWhole i r.labels → Uses i r.code r.held r.fresh → AllByRecursion (Served i r.fresh) s.branches → Orderly i r
  carried s r o c q p b longer room steady labels uses served = record {
    room = room;
    steady = steady;
    labels_whole = labels;
    constants_whole = rw c o.constants_whole;
    requests_known = rw (c, q) o.requests_known;
    placed_below = subst (AllByRecursion (PlacedBelow r)) (sym p) (placed_kept s r s.placed (rw c (omega arith)) (λ n _. rw c) (λ n k. record { within = omega (arith, k.within); starts = rw b k.starts }) o.placed_below);
    uses = uses;
    served = rw b served;
  }

  -- a use or a branch is appended: the fixups before it serve as before
  served_push : (s : State) (f : Fixup) → Orderly i s → AllByRecursion (Served i (s.fresh ++ f ∷ [])) s.branches
  served_push s f o = served_alike i _ _ s.fresh (s.fresh ++ f ∷ []) s.branches o.steady.stand (λ k h. same_alike _ _ (get_or_append_left s.fresh (f ∷ []) no_fixup k h)) o.served

  appended_in_place : (s : State) (l k : ℕ) (bytes : List ℕ) → Fits i s l k bytes → (i.adds k ≡ true → i.reads k bytes ≡ pos 0) → InPlace i (s.code ++ bytes) (fixup_at i l (cur_offset s) k)
  appended_in_place s l k bytes f z =
      let n = length s.code in
      let e : bytes_at i k (s.code ++ bytes) n ≡ bytes = ap (take (i.size k)) (drop_at s.code bytes n refl) ∙ take_all (i.size k) bytes (omega (arith, f.long)) in
      record {
        kind = f.kind;
        whole = f.aligned;
        within = simp length-append (omega (arith, f.long));
        unpatched = λ a. ap (i.reads k) e ∙ z a;
        due = refl;
      }

  uses_appended : (s : State) (l k : ℕ) (bytes : List ℕ) → Orderly i s → Fits i s l k bytes → (i.adds k ≡ true → i.reads k bytes ≡ pos 0) → Uses i (s.code ++ bytes) s.held (s.fresh ++ fixup_at i l (cur_offset s) k ∷ [])
  uses_appended s l k bytes o f z = uses_append i s.code bytes s.held s.fresh (fixup_at i l (cur_offset s) k) o.uses (omega arith) (appended_in_place s l k bytes f z)

  used_orderly : (s : State) (l k : ℕ) (bytes : List ℕ) → Orderly i s → Fits i s l k bytes → (i.adds k ≡ true → i.reads k bytes ≡ pos 0) → Orderly i (append_use i s l k bytes)
  used_orderly s l k bytes o f z =
      carried s (append_use i s l k bytes) o refl refl refl refl (simp length-append (omega arith)) (simp length-append f.room) ((calls_keep_steady i y).used s l k bytes o.steady f z) o.labels_whole
      (uses_appended s l k bytes o f z) (served_push s _ o)

  -- the bytes of a branch are of a kind that does not add
  branch_adds_not : (k : ℕ) (bytes : List ℕ) → OfKind i k bytes → is_some (i.role k bytes) ≡ true → i.adds k ≡ false
  branch_adds_not k bytes f b = ⊎_elim (λ e. absurd (false≢true (sym (ap is_some (y.adds_no_branch k bytes f e)) ∙ b))) (λ e. e) (cases_Bool (i.adds k))

  branched_orderly : (s : State) (l k : ℕ) (bytes : List ℕ) (inverted : Option (List ℕ)) → Orderly i s → Fits i s l k bytes → IfSome inverted (λ x. length x ≡ i.size k) → is_some (i.role k bytes) ≡ true → length s.branches < max_branches → Orderly i (append_branch i s l k bytes inverted)
  branched_orderly s l k bytes inverted o f n b h =
      let no_sum = branch_adds_not k bytes (record { kind = f.kind; long = f.long }) b in
      let z : i.adds k ≡ true → i.reads k bytes ≡ pos 0 = λ a. absurd (false≢true (sym no_sum ∙ a)) in
      let g = fixup_at i l (cur_offset s) k in
      let r = append_branch i s l k bytes inverted in
      record {
        room = simp length-append f.room;
        steady = (calls_keep_steady i y).branched s l k bytes inverted o.steady f n b h;
        labels_whole = o.labels_whole;
        constants_whole = o.constants_whole;
        requests_known = o.requests_known;
        placed_below = placed_kept s r s.placed (omega arith) (λ _ _. refl) (λ n p. record { within = simp length-append (omega (arith, p.within)); starts = All-push _ s.branches _ p.starts p.within }) o.placed_below;
        uses = uses_appended s l k bytes o f z;
        served = All-push (Served i (s.fresh ++ g ∷ [])) s.branches _ (served_push s g o) (rw (get_or_push s.fresh g no_fixup (length s.fresh) refl) (record { at = refl; wide = rw f.long; no_sum = no_sum }));
      }

  -- without standing branches nothing has to serve
  bare_served : (s : State) (gs : List Fixup) → s.branches ≡ [] → AllByRecursion (Served i gs) s.branches
  bare_served s gs e = rw e tt

  near_rewritten : (s : State) (f : Fixup) (place : ℕ) → Orderly i s → InPlace i s.code f → Near i s f place → Rewritten s.code f place
  near_rewritten s f place o p n = rewritten s.code f place p (subst (LabelWhole i) n.resolves (resolved_whole i s.labels (root s.labels f.label) o.labels_whole)) n.ahead n.behind

  veneer_whole : (s : State) (f : Fixup) (at : ℕ) → Veneered i s f at → at % i.align ≡ 0
  veneer_whole s f at v = rw v.behind_code (aligned_multiple i.align (cur_offset s) (some_alignment i y))

  veneer_rewritten : (s : State) (f : Fixup) (at : ℕ) → InPlace i s.code f → Veneered i s f at → Rewritten s.code f at
  veneer_rewritten s f at p v = rewritten s.code f at p (veneer_whole s f at v) v.ahead (omega (arith, v.behind_code, p.within))

  -- the code after a patch is as long as before
  rewritten_long : (s : State) (f : Fixup) (to : ℕ) → InPlace i s.code f → Rewritten s.code f to → length (patch_fixup i s f to) ≡ length s.code
  rewritten_long s f to p w = ap length w.same ∙ length-overwritten s.code w.bytes f.offset (omega (arith, w.long, p.within))

  -- a use that is patched to a veneer
  uses_veneered : (s : State) (f : Fixup) (at : ℕ) (held fresh : List Fixup) → InPlace i s.code f → Veneered i s f at → Uses i (patch_fixup i s f at) held fresh
      → Uses i (padded_to (patch_fixup i s f at) at ++ (i.veneer f.kind).code) held (fresh ++ own_fixup i f at ∷ [])
  uses_veneered s f at held fresh p v u =
      let code = patch_fixup i s f at in
      let w = (i.veneer f.kind).code in
      let l = rewritten_long s f at p (veneer_rewritten s f at p v) in
      let h : length code ≤ at = omega (arith, v.behind_code) in
      rw (padded_more code w at) (uses_append i code (zeros (at - length code) ++ w) held fresh (own_fixup i f at) u (omega arith) (rw (← padded_more code w at) (own_in_place code f at p.kind v.supported (veneer_whole s f at v) h)))

  patched_fresh_orderly : (s : State) (f : Fixup) (fs : List Fixup) (place : ℕ) → Orderly i s → s.branches ≡ [] → s.fresh ≡ f ∷ fs → Near i s f place → Orderly i (with_code (with_fresh s fs) (patch_fixup i s f place))
  patched_fresh_orderly s f fs place o e h n =
      let u = subst (λ (gs : List Fixup). Uses i s.code s.held gs) h o.uses in
      let p = u.fresh_in_place.0 in
      let w = near_rewritten s f place o p n in
      let l = rewritten_long s f place p w in
      carried s _ o refl refl refl refl (omega arith) (omega (arith, o.room)) ((calls_keep_steady i y).patched_fresh s f fs place o.steady e h n) o.labels_whole
      (subst (λ (code : List ℕ). Uses i code s.held fs) (sym w.same) (uses_fresh_done i s.code w.bytes s.held fs f w.long u)) (bare_served s fs e)

  patched_held_orderly : (s : State) (f : Fixup) (fs : List Fixup) (place : ℕ) → Orderly i s → s.branches ≡ [] → s.held ≡ f ∷ fs → Near i s f place → Orderly i (with_code (with_held s fs) (patch_fixup i s f place))
  patched_held_orderly s f fs place o e h n =
      let u = subst (λ (gs : List Fixup). Uses i s.code gs s.fresh) h o.uses in
      let p = u.held_in_place.0 in
      let w = near_rewritten s f place o p n in
      let l = rewritten_long s f place p w in
      carried s _ o refl refl refl refl (omega arith) (omega (arith, o.room)) ((calls_keep_steady i y).patched_held s f fs place o.steady e h n) o.labels_whole
      (subst (λ (code : List ℕ). Uses i code fs s.fresh) (sym w.same) (uses_held_done i s.code w.bytes fs s.fresh f w.long u)) (bare_served s s.fresh e)

  -- the code with a veneer
  veneered_long : (s : State) (f : Fixup) (at : ℕ) → InPlace i s.code f → Veneered i s f at → length (padded_to (patch_fixup i s f at) at ++ (i.veneer f.kind).code) ≡ at + length (i.veneer f.kind).code
  veneered_long s f at p v = length_padded (patch_fixup i s f at) (i.veneer f.kind).code at (omega (arith, rewritten_long s f at p (veneer_rewritten s f at p v), v.behind_code))

  veneered_fresh_orderly : (s : State) (f : Fixup) (fs : List Fixup) (at : ℕ) → Orderly i s → s.branches ≡ [] → s.fresh ≡ f ∷ fs → Veneered i s f at → Orderly i (add_veneer i (with_fresh s fs) f at)
  veneered_fresh_orderly s f fs at o e h v =
      let u = subst (λ (gs : List Fixup). Uses i s.code s.held gs) h o.uses in
      let p = u.fresh_in_place.0 in
      let w = veneer_rewritten s f at p v in
      let l = veneered_long s f at p v in
      carried s _ o refl refl refl refl (omega (arith, v.behind_code)) (omega (arith, v.room)) ((calls_keep_steady i y).veneered_fresh s f fs at o.steady e h v) o.labels_whole
      (uses_veneered s f at s.held fs p v (subst (λ (code : List ℕ). Uses i code s.held fs) (sym w.same) (uses_fresh_done i s.code w.bytes s.held fs f w.long u))) (bare_served s _ e)

  veneered_held_orderly : (s : State) (f : Fixup) (fs : List Fixup) (at : ℕ) → Orderly i s → s.branches ≡ [] → s.held ≡ f ∷ fs → Veneered i s f at → Orderly i (add_veneer i (with_held s fs) f at)
  veneered_held_orderly s f fs at o e h v =
      let u = subst (λ (gs : List Fixup). Uses i s.code gs s.fresh) h o.uses in
      let p = u.held_in_place.0 in
      let w = veneer_rewritten s f at p v in
      let l = veneered_long s f at p v in
      carried s _ o refl refl refl refl (omega (arith, v.behind_code)) (omega (arith, v.room)) ((calls_keep_steady i y).veneered_held s f fs at o.steady e h v) o.labels_whole
      (uses_veneered s f at fs s.fresh p v (subst (λ (code : List ℕ). Uses i code fs s.fresh) (sym w.same) (uses_held_done i s.code w.bytes fs s.fresh f w.long u))) (bare_served s _ e)

  put_aside_orderly : (s : State) (f : Fixup) (fs : List Fixup) → Orderly i s → s.branches ≡ [] → s.fresh ≡ f ∷ fs → Orderly i (with_held (with_fresh s fs) (insert_held f s.held))
  put_aside_orderly s f fs o e h =
      carried s _ o refl refl refl refl (omega arith) o.room ((calls_keep_steady i y).put_aside s f fs o.steady e h) o.labels_whole
      (uses_put_aside i s.code s.held fs f (subst (λ (gs : List Fixup). Uses i s.code s.held gs) h o.uses)) (bare_served s fs e)

  -- code is padded, and more comes after it
  uses_padded : (s : State) (more : List ℕ) (at : ℕ) → Orderly i s → Uses i (padded_to s.code at ++ more) s.held s.fresh
  uses_padded s more at o = rw (padded_more s.code more at) (uses_more i s.code (zeros (at - length s.code) ++ more) s.held s.fresh o.uses)

  trap_written_orderly : (s : State) (d : DeferredTrap) (ds : List DeferredTrap) → Orderly i s → s.branches ≡ [] → s.deferred ≡ d ∷ ds → aligned i.align (cur_offset s) + length i.trap ≤ max_code → Orderly i (write_trap i (with_deferred s ds) d (aligned i.align (cur_offset s)))
  trap_written_orderly s d ds o e h room =
      let at = aligned i.align (cur_offset s) in
      let l = length_padded s.code i.trap at (omega arith) in
      carried s _ o refl refl refl refl (omega arith) (omega arith) ((calls_keep_steady i y).trap_written s d ds o.steady e h room)
      (bound_whole i s.labels d.label at (aligned_multiple i.align (cur_offset s) (some_alignment i y)) o.labels_whole) (uses_padded s i.trap at o) o.served

  -- a constant under another label is as large, and as aligned, as it was
  same_size : (s : State) (n : ℕ) (l : Option ℕ) (m : ℕ) → n < length s.constants → (get_or (label_constant s n l) m (record { size = 0; align = 1; label = None })).size ≡ (constant_row s m).size
  same_size s n l m h = ⊎_elim
      (λ (e : m ≡ n). rw (e, get_or-set_same s.constants n (record { size = (constant_row s n).size; align = (constant_row s n).align; label = l }) (record { size = 0; align = 1; label = None }) h))
      (λ (d : m ≡ n → ⊥). ap (λ (c : Constant). c.size) (get_or-set_other s.constants n m (record { size = (constant_row s n).size; align = (constant_row s n).align; label = l }) (record { size = 0; align = 1; label = None }) d))
      (cases_eq m n)

  labelled_whole : (s : State) (n : ℕ) (l : Option ℕ) → n < length s.constants → AllByRecursion (ConstantWhole i) s.constants → AllByRecursion (ConstantWhole i) (label_constant s n l)
  labelled_whole s n l h a =
      let c = All-get_or (ConstantWhole i) s.constants n (record { size = 0; align = 1; label = None }) h a in
      All-set (ConstantWhole i) s.constants n _ (record { some = c.some; whole = c.whole }) a

  constant_placed_orderly : (s : State) (n : ℕ) (ns : List ℕ) → Orderly i s → s.branches ≡ [] → s.requested ≡ n ∷ ns → aligned (constant_row s n).align (cur_offset s) + (constant_row s n).size ≤ max_code
      → Orderly i (place_constant (with_requested s ns) n (aligned (constant_row s n).align (cur_offset s)))
  constant_placed_orderly s n ns o e h room =
      let at = aligned (constant_row s n).align (cur_offset s) in
      let r = place_constant (with_requested s ns) n at in
      let q : AllByRecursion (λ (m : ℕ). m < length s.constants) (n ∷ ns) = subst (AllByRecursion (λ (m : ℕ). m < length s.constants)) h o.requests_known in
      let c = All-get_or (ConstantWhole i) s.constants n (record { size = 0; align = 1; label = None }) q.0 o.constants_whole in
      let l : length r.code ≡ at + (constant_row s n).size = length_padded s.code (zeros (constant_row s n).size) at (omega arith) ∙ simp length-replicate in
      let k : length r.constants ≡ length s.constants = simp length-set in
      let whole : at % i.align ≡ 0 = multiple_of at (constant_row s n).align i.align (aligned_multiple (constant_row s n).align (cur_offset s) c.some) c.whole in
      record {
        room = omega arith;
        steady = (calls_keep_steady i y).constant_placed s n ns o.steady e h room;
        labels_whole = bound_if_whole i s.labels (constant_row s n).label at whole o.labels_whole;
        constants_whole = labelled_whole s n None q.0 o.constants_whole;
        requests_known = still_known _ _ ns (omega arith) q.1;
        placed_below = All-push (PlacedBelow r) s.placed _
            (placed_kept s r s.placed (omega arith) (λ m _. same_size s n None m q.0) (λ m p. record { within = omega (arith, p.within); starts = p.starts }) o.placed_below)
            (record { known = omega (arith, q.0); below = record { within = rw (same_size s n None n q.0) (omega arith); starts = rw e tt } });
        uses = uses_padded s (zeros (constant_row s n).size) at o;
        served = o.served;
      }

  registered_orderly : (s : State) (size align : ℕ) → Orderly i s → is_constant i size align ≡ true → length s.constants < max_constants → Orderly i (with_constants s (s.constants ++ record { size = size; align = align; label = None } ∷ []))
  registered_orderly s size align o e h =
      let a = constant_alignment i size align e in
      let r = with_constants s (s.constants ++ record { size = size; align = align; label = None } ∷ []) in
      record {
        room = o.room;
        steady = (calls_keep_steady i y).registered s size align o.steady e h;
        labels_whole = o.labels_whole;
        constants_whole = All-push (ConstantWhole i) s.constants _ o.constants_whole (record { some = some_is_alignment align a.0; whole = alignment_multiple i align y a.0 a.1 });
        requests_known = still_known _ _ s.requested (simp length-append (omega arith)) o.requests_known;
        placed_below = placed_kept s r s.placed (simp length-append (omega arith)) (λ n k. ap (λ (c : Constant). c.size) (get_or_append_left s.constants _ _ n k)) (λ n p. record { within = p.within; starts = p.starts }) o.placed_below;
        uses = o.uses;
        served = o.served;
      }

  requested_orderly : (s : State) (n : ℕ) → Orderly i s → Unrequested s n → length s.requested + length s.placed < max_requests → length s.labels < max_labels
      → Orderly i (with_requested (with_constants (add_label s true) (label_constant s n (Some (length s.labels)))) (s.requested ++ n ∷ []))
  requested_orderly s n o h j m =
      let r = with_requested (with_constants (add_label s true) (label_constant s n (Some (length s.labels)))) (s.requested ++ n ∷ []) in
      let k : length r.constants ≡ length s.constants = simp length-set in
      record {
        room = o.room;
        steady = (calls_keep_steady i y).requested s n o.steady h j m;
        labels_whole = unbound_whole i s.labels true o.labels_whole;
        constants_whole = labelled_whole s n (Some (length s.labels)) h.exists o.constants_whole;
        requests_known = still_known _ _ (s.requested ++ n ∷ []) (omega arith) (All-push (λ (x : ℕ). x < length s.constants) s.requested n o.requests_known h.exists);
        placed_below = placed_kept s r s.placed (omega arith) (λ x _. same_size s n (Some (length s.labels)) x h.exists) (λ x p. record { within = p.within; starts = p.starts }) o.placed_below;
        uses = o.uses;
        served = o.served;
      }

  -- the pool is copied into the places of the constants
  filled_long : (s : State) (pool : List ℕ) (ps : List PlacedConstant) (code : List ℕ) → AllByRecursion (λ (p : PlacedConstant). p.offset + (constant_row s p.number).size ≤ length code) ps → length (filled s pool ps code) ≡ length code
  filled_long s pool [] code a = refl
  filled_long s pool (p ∷ ps) code a =
      let bytes = pooled s pool p.number in
      let short : length bytes ≤ (constant_row s p.number).size = simp length-take (omega arith) in
      let l = length-overwritten code bytes p.offset (omega (arith, a.0)) in
      filled_long s pool ps (overwritten code p.offset bytes) (rw l a.1) ∙ l

  pub calls_keep_orderly : Kept i (Orderly i) (λ s. length s.code ≤ max_code)
  calls_keep_orderly = record {
    label = λ s o h. carried s _ o refl refl refl refl (omega arith) o.room ((calls_keep_steady i y).label s o.steady h) (unbound_whole i s.labels false o.labels_whole) o.uses o.served;
    bound = λ s l o h. carried s _ o refl refl refl refl (omega arith) o.room ((calls_keep_steady i y).bound s l o.steady h) (bound_whole i s.labels l (cur_offset s) h.aligned o.labels_whole) o.uses o.served;
    simple = simplified_keeps rules_keep_orderly forgot_orderly false;
    data_put = λ s trap bytes o h room. carried s _ o refl refl refl refl (simp length-append (omega arith)) (simp length-append room) ((calls_keep_steady i y).data_put s trap bytes o.steady h room) o.labels_whole (uses_more i s.code bytes s.held s.fresh o.uses) o.served;
    used = used_orderly;
    branched = branched_orderly;
    trap_deferred = λ s d o h j. carried s _ o refl refl refl refl (omega arith) o.room ((calls_keep_steady i y).trap_deferred s d o.steady h j) (unbound_whole i s.labels true o.labels_whole) o.uses o.served;
    registered = registered_orderly;
    requested = requested_orderly;
    opened = λ s o h. carried s _ o refl refl refl refl (omega arith) o.room ((calls_keep_steady i y).opened s o.steady h) o.labels_whole o.uses o.served;
    closed = λ s start o h. carried s _ o refl refl refl refl (omega arith) o.room ((calls_keep_steady i y).closed s start o.steady h) o.labels_whole o.uses o.served;
    forgot = forgot_orderly;
    patched_fresh = patched_fresh_orderly;
    veneered_fresh = veneered_fresh_orderly;
    put_aside = put_aside_orderly;
    patched_held = patched_held_orderly;
    veneered_held = veneered_held_orderly;
    deadline_reset = λ s o. carried s _ o refl refl refl refl (omega arith) o.room ((calls_keep_steady i y).deadline_reset s o.steady) o.labels_whole o.uses o.served;
    trap_written = trap_written_orderly;
    constant_placed = constant_placed_orderly;
    broke_off = λ s o. carried s _ o refl refl refl refl (omega arith) o.room ((calls_keep_steady i y).broke_off s o.steady) o.labels_whole o.uses o.served;
    at_end = λ s o. o.room;
    pool_copied = λ s pool o. rw (filled_long s pool s.placed s.code (All-weaker (PlacedBelow s) _ (λ p k. k.below.within) s.placed o.placed_below)) o.room;
  }

  empty_orderly : Orderly i empty
  empty_orderly = record { room = omega arith; steady = run_steady i y []; labels_whole = tt; constants_whole = tt; requests_known = tt; placed_below = tt; uses = record { held_in_place = tt; fresh_in_place = tt; fresh_in_order = tt; held_apart = tt; held_first = tt }; served = tt }

  -- while a buffer is built
  pub run_orderly : (cs : List Call) → (run i cs).finished ≡ false → Orderly i (run i cs).state
  run_orderly cs = while_building calls_keep_orderly empty_orderly cs

  -- and after every list of calls
  pub run_code_fits : (cs : List Call) → length (run i cs).state.code ≤ max_code
  run_code_fits cs = always calls_keep_orderly empty_orderly cs
