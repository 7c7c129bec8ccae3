-- What has changed in the tables after every island.
use Rattle.std.proofs.Common.{◌≡◌, ℕ, ◌-◌, Bool, ◌⊎◌, List, [], ◌∷◌, ◌++◌, length, sym, refl, subst, inl, inr, ⊎_elim, append_assoc, append-nil, arith}
use Rattle.std.specs.List.{ContainsAt}
use Rattle.std.proofs.ByRecursion.{all-has, all_has_itself, All-weaker}
use Rattle.isa.specs.Isa.{Isa}
use Rattle.isa.specs.Laws.{Lawful}
use Rattle.model.specs.declared.rows.Fixup.{Fixup}
use Rattle.model.specs.State.{State, cur_offset, with_code, with_fresh, with_held, with_branches, with_deferred, with_requested}
use Rattle.model.specs.Code.{zeros, aligned, padded_to}
use Rattle.model.specs.Fixups.{insert_held}
use Rattle.model.specs.Constants.{constant_row}
use Rattle.model.specs.Fates.{patch_fixup, add_veneer}
use Rattle.model.specs.Islands.{reset_deadline, write_trap, place_constant, island}
use Rattle.model.specs.Uses.{InPlace, Uses}
use Rattle.model.proofs.Passes.{Near, Veneered, KeptByIslands, island_keeps}
use Rattle.model.proofs.Orderly.{Orderly, calls_keep_orderly}
use Rattle.island_laws.specs.Waiting.{Waits}
use Rattle.island_laws.proofs.Since.{Start, Since, since_step}
use Rattle.island_laws.proofs.Members.{has_first, has_later, has_cases, has_inserted, has_insert, has_insert_cases}
use Rattle.island_laws.proofs.Steps.{fresh_removed, held_removed, grown, patched_step, veneered_step}

-- while uses are patched: the labels are those of the start, and all held uses waited then
record Patching (i : Isa) (start s : State) : Type 0 where
  orderly : Orderly i s
  since : Since i start s
  labels : s.labels ≡ start.labels
  held_old : (g : Fixup) → ContainsAt s.held g → Waits start g

-- while traps and constants are written
pub record Writing (i : Isa) (start s : State) : Type 0 where
  pub orderly : Orderly i s
  pub since : Since i start s

waiting_in_place : (i : Isa) (s : State) (f : Fixup) → Orderly i s → Waits s f → InPlace i s.code f
waiting_in_place i s f o (inl m) = all-has (InPlace i s.code) s.fresh f o.uses.fresh_in_place m
waiting_in_place i s f o (inr m) = all-has (InPlace i s.code) s.held f o.uses.held_in_place m

pub start_of : (i : Isa) → Lawful i → (s : State) → Orderly i s → Start i s
start_of i y s o = record { within = λ f w. (waiting_in_place i s f o w).within; some = λ f w. (y.kind_bounds f.kind (waiting_in_place i s f o w).kind).size_low }

since_here : (i : Isa) (s : State) → Since i s s
since_here i s = record { longer = omega arith; bytes = λ n h none. refl; each = λ f w. inl (record { waits = w; same = refl }); waiting = λ g w. inl w }

module _ (i : Isa) (y : Lawful i) (start : State) (z : Start i start) where
  -- code comes, and the fixups stay
  since_more : (s r : State) (more : List ℕ) → r.code ≡ s.code ++ more → r.fresh ≡ s.fresh → r.held ≡ s.held → Since i start s → Since i start r
  since_more s r more e fresh held k = since_step z k (grown i start s r more e (λ g w. rw (fresh, held) w) (λ g w. rw (fresh, held) at w))

  since_beside : (s r : State) → r.code ≡ s.code → r.fresh ≡ s.fresh → r.held ≡ s.held → Since i start s → Since i start r
  since_beside s r e fresh held k = since_more s r [] (rw e (sym (append-nil s.code))) fresh held k

  since_padded : (s r : State) (more : List ℕ) (at : ℕ) → r.code ≡ padded_to s.code at ++ more → r.fresh ≡ s.fresh → r.held ≡ s.held → Since i start s → Since i start r
  since_padded s r more at e fresh held k = since_more s r (zeros (at - length s.code) ++ more) (rw e (append_assoc s.code (zeros (at - length s.code)) more)) fresh held k

  fresh_waits : (s : State) (f : Fixup) (fs : List Fixup) → s.fresh ≡ f ∷ fs → Waits s f
  fresh_waits s f fs h = inl (subst (λ (xs : List Fixup). ContainsAt xs f) (sym h) (has_first f fs))

  held_waits : (s : State) (f : Fixup) (fs : List Fixup) → s.held ≡ f ∷ fs → ContainsAt s.held f
  held_waits s f fs h = subst (λ (xs : List Fixup). ContainsAt xs f) (sym h) (has_first f fs)

  held_later : (s : State) (f : Fixup) (fs : List Fixup) → s.held ≡ f ∷ fs → (g : Fixup) → ContainsAt fs g → ContainsAt s.held g
  held_later s f fs h g m = subst (λ (xs : List Fixup). ContainsAt xs g) (sym h) (has_later f fs g m)

  fresh_patched : (s : State) (f : Fixup) (fs : List Fixup) (place : ℕ) → Patching i start s → s.branches ≡ [] → s.fresh ≡ f ∷ fs → Waits start f → Near i s f place → Patching i start (with_code (with_fresh s fs) (patch_fixup i s f place))
  fresh_patched s f fs place k e h old n =
      let u = subst (λ (gs : List Fixup). Uses i s.code s.held gs) h k.orderly.uses in
      record {
        orderly = (calls_keep_orderly i y).patched_fresh s f fs place k.orderly e h n;
        since = since_step z k.since (patched_step i y start s _ f k.orderly old (fresh_waits s f fs h) u.fresh_in_place.0 place k.labels n refl (fresh_removed i s f fs h u));
        labels = k.labels;
        held_old = k.held_old;
      }

  fresh_veneered : (s : State) (f : Fixup) (fs : List Fixup) (at : ℕ) → Patching i start s → s.branches ≡ [] → s.fresh ≡ f ∷ fs → Waits start f → Veneered i s f at → Patching i start (add_veneer i (with_fresh s fs) f at)
  fresh_veneered s f fs at k e h old v =
      let u = subst (λ (gs : List Fixup). Uses i s.code s.held gs) h k.orderly.uses in
      record {
        orderly = (calls_keep_orderly i y).veneered_fresh s f fs at k.orderly e h v;
        since = since_step z k.since (veneered_step i y start s _ f k.orderly old (fresh_waits s f fs h) u.fresh_in_place.0 at fs k.since.longer v refl refl (fresh_removed i s f fs h u));
        labels = k.labels;
        held_old = k.held_old;
      }

  held_patched : (s : State) (f : Fixup) (fs : List Fixup) (place : ℕ) → Patching i start s → s.branches ≡ [] → s.held ≡ f ∷ fs → Near i s f place → Patching i start (with_code (with_held s fs) (patch_fixup i s f place))
  held_patched s f fs place k e h n =
      let u = subst (λ (gs : List Fixup). Uses i s.code gs s.fresh) h k.orderly.uses in
      let w = held_waits s f fs h in
      record {
        orderly = (calls_keep_orderly i y).patched_held s f fs place k.orderly e h n;
        since = since_step z k.since (patched_step i y start s _ f k.orderly (k.held_old f w) (inr w) u.held_in_place.0 place k.labels n refl (held_removed i s f fs h u));
        labels = k.labels;
        held_old = λ g m. k.held_old g (held_later s f fs h g m);
      }

  held_veneered : (s : State) (f : Fixup) (fs : List Fixup) (at : ℕ) → Patching i start s → s.branches ≡ [] → s.held ≡ f ∷ fs → Veneered i s f at → Patching i start (add_veneer i (with_held s fs) f at)
  held_veneered s f fs at k e h v =
      let u = subst (λ (gs : List Fixup). Uses i s.code gs s.fresh) h k.orderly.uses in
      let w = held_waits s f fs h in
      record {
        orderly = (calls_keep_orderly i y).veneered_held s f fs at k.orderly e h v;
        since = since_step z k.since (veneered_step i y start s _ f k.orderly (k.held_old f w) (inr w) u.held_in_place.0 at s.fresh k.since.longer v refl refl (held_removed i s f fs h u));
        labels = k.labels;
        held_old = λ g m. k.held_old g (held_later s f fs h g m);
      }

  fresh_put_aside : (s : State) (f : Fixup) (fs : List Fixup) → Patching i start s → s.branches ≡ [] → s.fresh ≡ f ∷ fs → Waits start f → Patching i start (with_held (with_fresh s fs) (insert_held f s.held))
  fresh_put_aside s f fs k e h old = record {
    orderly = (calls_keep_orderly i y).put_aside s f fs k.orderly e h;
    since = since_step z k.since (grown i start s (with_held (with_fresh s fs) (insert_held f s.held)) [] (sym (append-nil s.code)) on back);
    labels = k.labels;
    held_old = λ g m. ⊎_elim (λ (t : g ≡ f). rw t old) (λ (l : ContainsAt s.held g). k.held_old g l) (has_insert_cases f s.held g m);
  }
    where
      on : (g : Fixup) → Waits s g → ContainsAt fs g ⊎ ContainsAt (insert_held f s.held) g
      on g (inl m) = ⊎_elim (λ (t : g ≡ f). inr (rw t (has_inserted f s.held))) (λ (l : ContainsAt fs g). inl l) (has_cases f fs g (subst (λ (xs : List Fixup). ContainsAt xs g) h m))
      on g (inr m) = inr (has_insert f s.held g m)

      back : (g : Fixup) → ContainsAt fs g ⊎ ContainsAt (insert_held f s.held) g → Waits s g
      back g (inl m) = inl (subst (λ (xs : List Fixup). ContainsAt xs g) (sym h) (has_later f fs g m))
      back g (inr m) = ⊎_elim (λ (t : g ≡ f). rw t (fresh_waits s f fs h)) (λ (l : ContainsAt s.held g). inr l) (has_insert_cases f s.held g m)

  patching_beside : (s r : State) → Orderly i r → r.code ≡ s.code → r.fresh ≡ s.fresh → r.held ≡ s.held → r.labels ≡ s.labels → Patching i start s → Patching i start r
  patching_beside s r o e fresh held labels k = record { orderly = o; since = since_beside s r e fresh held k.since; labels = rw labels k.labels; held_old = λ g m. k.held_old g (subst (λ (xs : List Fixup). ContainsAt xs g) held m) }

  islands_keep : KeptByIslands i (Waits start) (Patching i start) (Writing i start)
  islands_keep = record {
    forgot = λ s k. patching_beside s (with_branches s []) ((calls_keep_orderly i y).forgot s k.orderly) refl refl refl refl k;
    patched_fresh = fresh_patched;
    veneered_fresh = fresh_veneered;
    put_aside = fresh_put_aside;
    patched_held = held_patched;
    veneered_held = held_veneered;
    deadline_reset = λ s k. patching_beside s (reset_deadline i s) ((calls_keep_orderly i y).deadline_reset s k.orderly) refl refl refl refl k;
    all_patched = λ s k. record { orderly = k.orderly; since = k.since };
    trap_written = λ s d ds k e h room. record {
      orderly = (calls_keep_orderly i y).trap_written s d ds k.orderly e h room;
      since = since_padded s (write_trap i (with_deferred s ds) d (aligned i.align (cur_offset s))) i.trap (aligned i.align (cur_offset s)) refl refl refl k.since;
    };
    constant_placed = λ s n ns k e h room. record {
      orderly = (calls_keep_orderly i y).constant_placed s n ns k.orderly e h room;
      since = since_padded s (place_constant (with_requested s ns) n (aligned (constant_row s n).align (cur_offset s))) (zeros (constant_row s n).size) (aligned (constant_row s n).align (cur_offset s)) refl refl refl k.since;
    };
  }

pub island_since : (i : Isa) → Lawful i → (s : State) → Orderly i s → (force : Bool) (distance : ℕ) → Writing i s (island i force distance s).state
island_since i y s o force distance =
    island_keeps (islands_keep i y s (start_of i y s o)) force distance s (All-weaker (ContainsAt s.fresh) (Waits s) (λ f m. inl m) s.fresh (all_has_itself s.fresh))
    (record { orderly = o; since = since_here i s; labels = refl; held_old = λ g m. inr m })
