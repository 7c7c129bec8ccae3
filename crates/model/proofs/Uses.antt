-- The uses that wait stay in place and apart, as code and uses come and go, and as uses are patched.
use Rattle.std.proofs.Common.{◌≡◌, ℕ, zero, suc, ◌+◌, ◌-◌, ◌%◌, ◌<◌, ◌≤◌, false, ◌⊎◌, List, [], ◌∷◌, ◌++◌, length, get_or, take, drop, set, sym, refl, ap, ◌∙◌, inl, inr, ⊎_elim, arith, length-append, length-drop, length-take, rules}
use lib.IntN.{sub_ℕ}
use Rattle.std.specs.List.{AllByRecursion}
use Rattle.std.proofs.lemmas.List.{places, same_lists, drop-drop, drop_at, get_or-take, length-set, get_or-set_same, get_or-set_other}
use Rattle.std.proofs.ByRecursion.{All-get_or, All-from_get_or, All-push, All-weaker, All-take, All-set}
use Rattle.std.proofs.lemmas.Bool.{cases_lt, cases_eq, false≢true}
use Rattle.isa.specs.Isa.{Isa, Patchable, bytes_at}
use Rattle.model.specs.declared.rows.Fixup.{Fixup}
use Rattle.model.specs.Code.{overwritten}
use Rattle.model.specs.Fixups.{comes_before, insert_held}
use Rattle.model.specs.Simplify.{no_fixup, relabelled}
use Rattle.model.specs.Uses.{InPlace, EndsBefore, Apart, InOrder, AllApart, Uses}
use Rattle.model.proofs.Cases.{either}
use Rattle.model.proofs.Multiples.{reaches}
use Rattle.model.proofs.Overwritten.{length-overwritten, overwritten_apart}

-- two facts of each element give a third
pub all_both : {X : Type 0} (P Q R : X → Type 0) → ((x : X) → P x → Q x → R x) → (xs : List X) → AllByRecursion P xs → AllByRecursion Q xs → AllByRecursion R xs
all_both P Q R f [] p q = tt
all_both P Q R f (x ∷ xs) p q = (f x p.0 q.0, all_both P Q R f xs p.1 q.1)

-- bytes of a part of some code
pub part_of_more : (code more : List ℕ) (from n : ℕ) → from + n ≤ length code → take n (drop from (code ++ more)) ≡ take n (drop from code)
part_of_more code more from n h = same_lists _ _ (search (rules, places)) (λ k d l. grind (arith, places))

part_of_less : (code : List ℕ) (m from n : ℕ) → from + n ≤ m → m ≤ length code → take n (drop from (take m code)) ≡ take n (drop from code)
part_of_less code m from n h l = same_lists _ _ (search (rules, places)) (λ k d j. grind (arith, places))

pub part_appended : (code more : List ℕ) (from n : ℕ) → take n (drop (length code + from) (code ++ more)) ≡ take n (drop from more)
part_appended code more from n = ap (take n) (sym (drop-drop from (length code) (code ++ more)) ∙ ap (drop from) (drop_at code more (length code) refl))

-- a use whose bytes are the same in other code
still_in_place : (i : Isa) (code other : List ℕ) (f : Fixup) → f.offset + i.size f.kind ≤ length other → bytes_at i f.kind other f.offset ≡ bytes_at i f.kind code f.offset → InPlace i code f → InPlace i other f
still_in_place i code other f h e p = record { kind = p.kind; whole = p.whole; within = h; unpatched = λ a. rw e (p.unpatched a); due = p.due }

-- a use in place can be patched to a multiple of the alignment that is near enough
pub patchable : (i : Isa) (code : List ℕ) (f : Fixup) (to : ℕ) → InPlace i code f → to % i.align ≡ 0 → to - f.offset ≤ i.max_pos f.kind → f.offset - to ≤ i.max_neg f.kind → Patchable i f.kind (bytes_at i f.kind code f.offset) (sub_ℕ to f.offset)
patchable i code f to p h ahead behind = record {
  kind = p.kind;
  long = simp (length-take, length-drop) (omega (arith, p.within));
  reach = reaches i f.kind to f.offset h p.whole ahead behind;
  fresh = p.unpatched;
}

module _ (i : Isa) where
  in_place_more : (code more : List ℕ) (f : Fixup) → InPlace i code f → InPlace i (code ++ more) f
  in_place_more code more f p = still_in_place i code (code ++ more) f (simp length-append (omega (arith, p.within))) (part_of_more code more _ _ p.within) p

  in_place_less : (code : List ℕ) (m : ℕ) (f : Fixup) → m ≤ length code → f.offset + i.size f.kind ≤ m → InPlace i code f → InPlace i (take m code) f
  in_place_less code m f l h p = still_in_place i code (take m code) f (simp length-take (omega arith)) (part_of_less code m _ _ h l) p

  in_place_apart : (code bytes : List ℕ) (at : ℕ) (f : Fixup) → at + length bytes ≤ length code → (f.offset + i.size f.kind ≤ at) ⊎ (at + length bytes ≤ f.offset) → InPlace i code f → InPlace i (overwritten code at bytes) f
  in_place_apart code bytes at f l h p = still_in_place i code (overwritten code at bytes) f (rw (length-overwritten code bytes at l) p.within) (overwritten_apart code bytes at _ _ l h) p

  -- of uses in order, a lower one ends before a higher one begins
  pub order_at : (fs : List Fixup) (j k : ℕ) → j < k → k < length fs → InOrder i fs → EndsBefore i (get_or fs j no_fixup) (get_or fs k no_fixup)
  order_at [] j k h l o = absurd (omega arith)
  order_at (f ∷ fs) j zero h l o = absurd (omega arith)
  order_at (f ∷ fs) zero (suc k) h l o = All-get_or (EndsBefore i f) fs k no_fixup (omega arith) o.0
  order_at (f ∷ fs) (suc j) (suc k) h l o = order_at fs j k (omega arith) (omega arith) o.1

  order_push : (fs : List Fixup) (g : Fixup) → InOrder i fs → AllByRecursion (λ (f : Fixup). EndsBefore i f g) fs → InOrder i (fs ++ g ∷ [])
  order_push [] g o a = (tt, tt)
  order_push (f ∷ fs) g o a = (All-push (EndsBefore i f) fs g o.0 a.0, order_push fs g o.1 a.1)

  order_take : (n : ℕ) (fs : List Fixup) → InOrder i fs → InOrder i (take n fs)
  order_take zero fs o = tt
  order_take (suc n) [] o = tt
  order_take (suc n) (f ∷ fs) o = (All-take (EndsBefore i f) n fs o.0, order_take n fs o.1)

  order_relabelled : (fs : List Fixup) (n l : ℕ) → n < length fs → InOrder i fs → InOrder i (set fs n (relabelled (get_or fs n no_fixup) l))
  order_relabelled [] n l h o = absurd (omega arith)
  order_relabelled (f ∷ fs) zero l h o = o
  order_relabelled (f ∷ fs) (suc n) l h o = (All-set (EndsBefore i f) fs n _ (All-get_or (EndsBefore i f) fs n no_fixup (omega arith) o.0) o.0, order_relabelled fs n l (omega arith) o.1)

  all_insert : (P : Fixup → Type 0) (f : Fixup) (gs : List Fixup) → P f → AllByRecursion P gs → AllByRecursion P (insert_held f gs)
  all_insert P f [] p a = (p, tt)
  all_insert P f (g ∷ gs) p a = either (AllByRecursion P) (comes_before f g) (f ∷ g ∷ gs) (g ∷ insert_held f gs) (p, a) (a.0, all_insert P f gs p a.1)

  apart_insert : (f : Fixup) (gs : List Fixup) → AllByRecursion (Apart i f) gs → AllApart i gs → AllApart i (insert_held f gs)
  apart_insert f [] a o = (tt, tt)
  apart_insert f (g ∷ gs) a o =
      let swapped : Apart i g f = ⊎_elim (λ x. inr x) (λ x. inl x) a.0 in
      either (AllApart i) (comes_before f g) (f ∷ g ∷ gs) (g ∷ insert_held f gs) (a, o) (all_insert (Apart i g) f gs swapped o.0, apart_insert f gs a.1 o.1)

  -- code comes
  pub uses_more : (code more : List ℕ) (held fresh : List Fixup) → Uses i code held fresh → Uses i (code ++ more) held fresh
  uses_more code more held fresh u = record {
    held_in_place = All-weaker _ _ (in_place_more code more) held u.held_in_place;
    fresh_in_place = All-weaker _ _ (in_place_more code more) fresh u.fresh_in_place;
    fresh_in_order = u.fresh_in_order;
    held_apart = u.held_apart;
    held_first = u.held_first;
  }

  -- and a use in it
  pub uses_append : (code more : List ℕ) (held fresh : List Fixup) (g : Fixup) → Uses i code held fresh → length code ≤ g.offset → InPlace i (code ++ more) g → Uses i (code ++ more) held (fresh ++ g ∷ [])
  uses_append code more held fresh g u h p =
      let v = uses_more code more held fresh u in
      let ends : (f : Fixup) → InPlace i code f → EndsBefore i f g = λ f q. omega (arith, q.within) in
      record {
        held_in_place = v.held_in_place;
        fresh_in_place = All-push (InPlace i (code ++ more)) fresh g v.fresh_in_place p;
        fresh_in_order = order_push fresh g u.fresh_in_order (All-weaker _ _ ends fresh u.fresh_in_place);
        held_apart = u.held_apart;
        held_first = all_both _ _ (λ (f : Fixup). AllByRecursion (EndsBefore i f) (fresh ++ g ∷ [])) (λ f q a. All-push (EndsBefore i f) fresh g a (ends f q)) held u.held_in_place u.held_first;
      }

  -- the first fresh use is put aside
  pub uses_put_aside : (code : List ℕ) (held fs : List Fixup) (f : Fixup) → Uses i code held (f ∷ fs) → Uses i code (insert_held f held) fs
  uses_put_aside code held fs f u = record {
    held_in_place = all_insert (InPlace i code) f held u.fresh_in_place.0 u.held_in_place;
    fresh_in_place = u.fresh_in_place.1;
    fresh_in_order = u.fresh_in_order.1;
    held_apart = apart_insert f held (All-weaker (λ (h : Fixup). AllByRecursion (EndsBefore i h) (f ∷ fs)) (Apart i f) (λ h a. inr a.0) held u.held_first) u.held_apart;
    held_first = all_insert (λ (h : Fixup). AllByRecursion (EndsBefore i h) fs) f held u.fresh_in_order.0 (All-weaker (λ (h : Fixup). AllByRecursion (EndsBefore i h) (f ∷ fs)) (λ (h : Fixup). AllByRecursion (EndsBefore i h) fs) (λ h a. a.1) held u.held_first);
  }

  -- the first fresh use is overwritten, and waits no longer
  pub uses_fresh_done : (code bytes : List ℕ) (held fs : List Fixup) (f : Fixup) → length bytes ≡ i.size f.kind → Uses i code held (f ∷ fs) → Uses i (overwritten code f.offset bytes) held fs
  uses_fresh_done code bytes held fs f e u =
      let room : f.offset + length bytes ≤ length code = omega (arith, u.fresh_in_place.0.within) in
      record {
        held_in_place = all_both _ (λ (h : Fixup). AllByRecursion (EndsBefore i h) (f ∷ fs)) _ (λ h p a. in_place_apart code bytes f.offset h room (inl a.0) p) held u.held_in_place u.held_first;
        fresh_in_place = all_both _ (EndsBefore i f) _ (λ g p b. in_place_apart code bytes f.offset g room (inr (omega arith)) p) fs u.fresh_in_place.1 u.fresh_in_order.0;
        fresh_in_order = u.fresh_in_order.1;
        held_apart = u.held_apart;
        held_first = All-weaker (λ (h : Fixup). AllByRecursion (EndsBefore i h) (f ∷ fs)) (λ (h : Fixup). AllByRecursion (EndsBefore i h) fs) (λ h a. a.1) held u.held_first;
      }

  -- and so is the first held one
  pub uses_held_done : (code bytes : List ℕ) (fs fresh : List Fixup) (f : Fixup) → length bytes ≡ i.size f.kind → Uses i code (f ∷ fs) fresh → Uses i (overwritten code f.offset bytes) fs fresh
  uses_held_done code bytes fs fresh f e u =
      let room : f.offset + length bytes ≤ length code = omega (arith, u.held_in_place.0.within) in
      record {
        held_in_place = all_both _ (Apart i f) _ (λ g p a. in_place_apart code bytes f.offset g room (⊎_elim (λ b. inr (omega arith)) (λ b. inl b) a) p) fs u.held_in_place.1 u.held_apart.0;
        fresh_in_place = all_both _ (EndsBefore i f) _ (λ g p b. in_place_apart code bytes f.offset g room (inr (omega arith)) p) fresh u.fresh_in_place u.held_first.0;
        fresh_in_order = u.fresh_in_order;
        held_apart = u.held_apart.1;
        held_first = u.held_first.1;
      }

  -- the last fresh use goes, with the code from its offset on
  pub uses_cut : (code : List ℕ) (held fresh : List Fixup) → 0 < length fresh → Uses i code held fresh → let n = length fresh - 1 in Uses i (take (get_or fresh n no_fixup).offset code) held (take n fresh)
  uses_cut code held fresh h u =
      let n = length fresh - 1 in
      let last = get_or fresh n no_fixup in
      let p : InPlace i code last = All-get_or (InPlace i code) fresh n no_fixup (omega arith) u.fresh_in_place in
      let l : last.offset ≤ length code = omega (arith, p.within) in
      record {
        held_in_place = all_both _ (λ (f : Fixup). AllByRecursion (EndsBefore i f) fresh) _ (λ f q a. in_place_less code last.offset f l (All-get_or (EndsBefore i f) fresh n no_fixup (omega arith) a) q) held u.held_in_place u.held_first;
        fresh_in_place = All-from_get_or (InPlace i (take last.offset code)) (take n fresh) no_fixup (λ k m.
            let j : k < n = omega (arith, length-take n fresh) in
            rw (get_or-take n fresh k no_fixup j) (in_place_less code last.offset (get_or fresh k no_fixup) l (order_at fresh k n j (omega arith) u.fresh_in_order) (All-get_or (InPlace i code) fresh k no_fixup (omega arith) u.fresh_in_place)));
        fresh_in_order = order_take n fresh u.fresh_in_order;
        held_apart = u.held_apart;
        held_first = All-weaker (λ (f : Fixup). AllByRecursion (EndsBefore i f) fresh) (λ (f : Fixup). AllByRecursion (EndsBefore i f) (take n fresh)) (λ f a. All-take (EndsBefore i f) n fresh a) held u.held_first;
      }

  -- a fresh use of a kind that does not add is overwritten, and waits for another label
  pub uses_turned : (code bytes : List ℕ) (held fresh : List Fixup) (n l : ℕ) → n < length fresh → let f = get_or fresh n no_fixup in length bytes ≤ i.size f.kind → i.adds f.kind ≡ false → Uses i code held fresh
      → Uses i (overwritten code f.offset bytes) held (set fresh n (relabelled f l))
  uses_turned code bytes held fresh n l h b adds u =
      let f = get_or fresh n no_fixup in
      let p : InPlace i code f = All-get_or (InPlace i code) fresh n no_fixup h u.fresh_in_place in
      let room : f.offset + length bytes ≤ length code = omega (arith, p.within) in
      record {
        held_in_place = all_both _ (λ (g : Fixup). AllByRecursion (EndsBefore i g) fresh) _ (λ g q a. in_place_apart code bytes f.offset g room (inl (All-get_or (EndsBefore i g) fresh n no_fixup h a)) q) held u.held_in_place u.held_first;
        fresh_in_place = All-from_get_or (InPlace i (overwritten code f.offset bytes)) (set fresh n (relabelled f l)) no_fixup (λ k m. ⊎_elim
            (λ (e : k ≡ n). rw (e, get_or-set_same fresh n (relabelled f l) no_fixup h) (record { kind = p.kind; whole = p.whole; within = rw (length-overwritten code bytes f.offset room) p.within; unpatched = λ a. absurd (false≢true (sym adds ∙ a)); due = p.due }))
            (λ (d : k ≡ n → ⊥). rw (get_or-set_other fresh n k (relabelled f l) no_fixup d) (other k (omega (arith, length-set fresh n (relabelled f l))) d))
            (cases_eq k n));
        fresh_in_order = order_relabelled fresh n l h u.fresh_in_order;
        held_apart = u.held_apart;
        held_first = All-weaker (λ (g : Fixup). AllByRecursion (EndsBefore i g) fresh) (λ (g : Fixup). AllByRecursion (EndsBefore i g) (set fresh n (relabelled f l))) (λ g a. All-set (EndsBefore i g) fresh n (relabelled f l) (All-get_or (EndsBefore i g) fresh n no_fixup h a) a) held u.held_first;
      }
    where
      other : (k : ℕ) → k < length fresh → (k ≡ n → ⊥) → InPlace i (overwritten code (get_or fresh n no_fixup).offset bytes) (get_or fresh k no_fixup)
      other k m d =
          let f = get_or fresh n no_fixup in
          let p : InPlace i code f = All-get_or (InPlace i code) fresh n no_fixup h u.fresh_in_place in
          let apart : ((get_or fresh k no_fixup).offset + i.size (get_or fresh k no_fixup).kind ≤ f.offset) ⊎ (f.offset + length bytes ≤ (get_or fresh k no_fixup).offset) = ⊎_elim
          (λ (less : k < n). inl (order_at fresh k n less h u.fresh_in_order))
          (λ (more : n ≤ k). let c : n < k = omega (arith, d) in inr (omega (arith, order_at fresh n k c m u.fresh_in_order)))
          (cases_lt k n) in
          in_place_apart code bytes f.offset (get_or fresh k no_fixup) (omega (arith, p.within)) apart (All-get_or (InPlace i code) fresh k no_fixup m u.fresh_in_place)
