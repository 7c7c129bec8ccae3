-- The steps of an island: one use is patched, to its label or to a new veneer, or code comes behind the code.
use Rattle.std.proofs.Common.{◌≡◌, ℕ, ◌+◌, ◌-◌, ◌≤◌, ◌⊎◌, List, [], ◌∷◌, ◌++◌, length, take, drop, sym, refl, ap, ◌∙◌, subst, inl, inr, ⊎_elim, append_assoc, append-nil, arith, length-append}
use lib.IntN.{sub_ℕ}
use Rattle.std.specs.List.{ContainsAt, AllByRecursion}
use Rattle.std.proofs.lemmas.List.{take_all, drop_at}
use Rattle.std.proofs.ByRecursion.{all-has, has_append_left, has_push, has_push_cases}
use Rattle.isa.specs.Isa.{Isa, Patchable}
use Rattle.isa.specs.Laws.{Lawful}
use Rattle.model.specs.declared.rows.Fixup.{Fixup}
use Rattle.model.specs.State.{State, cur_offset}
use Rattle.model.specs.Code.{zeros, padded_to}
use Rattle.model.specs.Labels.{root}
use Rattle.model.specs.Fates.{patch_fixup, own_fixup}
use Rattle.model.specs.Uses.{InPlace, EndsBefore, Apart, Uses}
use Rattle.model.proofs.Passes.{Near, Veneered}
use Rattle.model.proofs.Multiples.{aligned_multiple, some_alignment}
use Rattle.model.proofs.Uses.{part_of_more, patchable}
use Rattle.model.proofs.Orderly.{LabelWhole, Orderly, resolved_whole}
use Rattle.island_laws.specs.Waiting.{Waits, use_bytes, VeneerAt}
use Rattle.island_laws.proofs.Since.{ByLabel, ByVeneer, NewOwn, Step}
use Rattle.island_laws.proofs.Members.{has_later, has_cases}
use Rattle.island_laws.proofs.Patches.{padded_long, patch_long, patch_same, patch_written}

-- the uses that wait, without one of them
pub record Removed (i : Isa) (s : State) (f : Fixup) (fresh held : List Fixup) : Type 0 where
  pub left : (g : Fixup) → Waits s g → (g ≡ f) ⊎ (ContainsAt fresh g ⊎ ContainsAt held g)
  pub stay : (g : Fixup) → ContainsAt fresh g ⊎ ContainsAt held g → Waits s g × Apart i f g

pub fresh_removed : (i : Isa) (s : State) (f : Fixup) (fs : List Fixup) → s.fresh ≡ f ∷ fs → Uses i s.code s.held (f ∷ fs) → Removed i s f fs s.held
fresh_removed i s f fs e u = record { left = left; stay = stay }
  where
    left : (g : Fixup) → Waits s g → (g ≡ f) ⊎ (ContainsAt fs g ⊎ ContainsAt s.held g)
    left g (inl m) = ⊎_elim (λ (h : g ≡ f). inl h) (λ (h : ContainsAt fs g). inr (inl h)) (has_cases f fs g (subst (λ (xs : List Fixup). ContainsAt xs g) e m))
    left g (inr m) = inr (inr m)

    stay : (g : Fixup) → ContainsAt fs g ⊎ ContainsAt s.held g → Waits s g × Apart i f g
    stay g (inl m) = (inl (subst (λ (xs : List Fixup). ContainsAt xs g) (sym e) (has_later f fs g m)), inl (all-has (EndsBefore i f) fs g u.fresh_in_order.0 m))
    stay g (inr m) = (inr m, inr (all-has (λ (h : Fixup). AllByRecursion (EndsBefore i h) (f ∷ fs)) s.held g u.held_first m).0)

pub held_removed : (i : Isa) (s : State) (f : Fixup) (fs : List Fixup) → s.held ≡ f ∷ fs → Uses i s.code (f ∷ fs) s.fresh → Removed i s f s.fresh fs
held_removed i s f fs e u = record { left = left; stay = stay }
  where
    left : (g : Fixup) → Waits s g → (g ≡ f) ⊎ (ContainsAt s.fresh g ⊎ ContainsAt fs g)
    left g (inl m) = inr (inl m)
    left g (inr m) = ⊎_elim (λ (h : g ≡ f). inl h) (λ (h : ContainsAt fs g). inr (inr h)) (has_cases f fs g (subst (λ (xs : List Fixup). ContainsAt xs g) e m))

    stay : (g : Fixup) → ContainsAt s.fresh g ⊎ ContainsAt fs g → Waits s g × Apart i f g
    stay g (inl m) = (inl m, inl (all-has (EndsBefore i f) s.fresh g u.held_first.0 m))
    stay g (inr m) = (inr (subst (λ (xs : List Fixup). ContainsAt xs g) (sym e) (has_later f fs g m)), all-has (Apart i f) fs g u.held_apart.0 m)

-- code comes, and the same uses wait
pub grown : (i : Isa) (start s r : State) (more : List ℕ) → r.code ≡ s.code ++ more → ((g : Fixup) → Waits s g → Waits r g) → ((g : Fixup) → Waits r g → Waits s g) → Step i start s r (λ _. ⊥)
grown i start s r more e on back = record {
  longer = rw e (simp length-append (omega arith));
  same = λ from n h _. ap (λ (code : List ℕ). take n (drop from code)) e ∙ part_of_more s.code more from n h;
  old = λ f t. absurd t;
  waited = λ f t. absurd t;
  left = λ g w. inr (on g w);
  came = λ g w. inl (back g w, λ f t. absurd t);
  done = λ f t. absurd t;
}

module _ (i : Isa) (y : Lawful i) (start s r : State) (f : Fixup) (o : Orderly i s) (old : Waits start f) (waited : Waits s f) (p : InPlace i s.code f) where
  near_patchable : (place : ℕ) → Near i s f place → Patchable i f.kind (use_bytes i s f) (sub_ℕ place f.offset)
  near_patchable place n = patchable i s.code f place p (subst (LabelWhole i) n.resolves (resolved_whole i s.labels (root s.labels f.label) o.labels_whole)) n.ahead n.behind

  veneer_patchable : (at : ℕ) → Veneered i s f at → Patchable i f.kind (use_bytes i s f) (sub_ℕ at f.offset)
  veneer_patchable at v = patchable i s.code f at p (rw v.behind_code (aligned_multiple i.align (cur_offset s) (some_alignment i y))) v.ahead (omega (arith, v.behind_code, p.within))

  -- the use is patched to its label
  pub patched_step : (place : ℕ) → s.labels ≡ start.labels → Near i s f place → r.code ≡ patch_fixup i s f place → Removed i s f r.fresh r.held → Step i start s r (λ g. g ≡ f)
  patched_step place labels n e m =
      let q = near_patchable place n in
      let c : r.code ≡ patch_fixup i s f place ++ [] = e ∙ sym (append-nil (patch_fixup i s f place)) in
      let b : ByLabel i start s r f = record { place = place; stood = rw labels at n.resolves; written = patch_written i y s f place [] p.within q r c } in
      record {
        longer = rw (e, patch_long i y s f place [] p.within q) (omega arith);
        same = λ from k h apart. ap (λ (code : List ℕ). take k (drop from code)) c ∙ patch_same i y s f place [] p.within q from k h (apart f refl);
        old = λ g t. rw t old;
        waited = λ g t. rw t waited;
        left = m.left;
        came = λ g w. let x = m.stay g w in inl (x.0, λ h t. rw t x.1);
        done = λ g t. inl (subst (ByLabel i start s r) (sym t) b);
      }

  -- The use is patched to a veneer that is appended.
  pub veneered_step : (at : ℕ) (fs : List Fixup) → cur_offset start ≤ cur_offset s → Veneered i s f at → r.code ≡ padded_to (patch_fixup i s f at) at ++ (i.veneer f.kind).code → r.fresh ≡ fs ++ own_fixup i f at ∷ [] → Removed i s f fs r.held → Step i start s r (λ g. g ≡ f)
  veneered_step at fs behind v e fresh m =
      let q = veneer_patchable at v in
      let code = patch_fixup i s f at in
      let own = own_fixup i f at in
      let w = (i.veneer f.kind).code in
      let more = zeros (at - length code) ++ w in
      let long : length code ≡ cur_offset s = patch_long i y s f at more p.within q in
      let c : r.code ≡ code ++ more = e ∙ append_assoc code (zeros (at - length code)) w in
      let padded : length (padded_to code at) ≡ at = padded_long code at (omega (arith, v.behind_code)) in
      let all : length r.code ≡ at + length w = ap length e ∙ length-append (padded_to code at) w ∙ ap (λ (n : ℕ). n + length w) padded in
      let stands : VeneerAt i start r f at = record {
        supported = v.supported;
        behind = omega (arith, v.behind_code);
        aligned = rw v.behind_code (aligned_multiple i.align (cur_offset s) (some_alignment i y));
        within = omega arith;
        whole = ap (λ (x : List ℕ). take (length w) (drop at x)) e ∙ ap (take (length w)) (drop_at (padded_to code at) w at padded) ∙ take_all (length w) w (omega arith);
        own_waits = inl (subst (λ (xs : List Fixup). ContainsAt xs own) (sym fresh) (has_push fs own));
      } in
      let b : ByVeneer i start s r f at = record { written = patch_written i y s f at more p.within q r c; veneer = stands } in
      let stay : (g : Fixup) → ContainsAt fs g ⊎ ContainsAt r.held g → (Waits s g × ((h : Fixup) → h ≡ f → Apart i h g)) ⊎ NewOwn i start s r (λ h. h ≡ f) g = λ g x. let z = m.stay g x in inl (z.0, λ h t. rw t z.1) in
      let new : (g : Fixup) → own ≡ g → NewOwn i start s r (λ h. h ≡ f) g = λ g x. record { patched_use = f; at = at; touched = refl; is = sym x; made = b } in
      record {
        longer = omega (arith, v.behind_code);
        same = λ from k h apart. ap (λ (x : List ℕ). take k (drop from x)) c ∙ patch_same i y s f at more p.within q from k h (apart f refl);
        old = λ g t. rw t old;
        waited = λ g t. rw t waited;
        left = λ g x. ⊎_elim (λ (t : g ≡ f). inl t) (λ (z : ContainsAt fs g ⊎ ContainsAt r.held g). inr (⊎_elim (λ (h : ContainsAt fs g). inl (subst (λ (xs : List Fixup). ContainsAt xs g) (sym fresh) (has_append_left fs (own ∷ []) g h))) (λ (h : ContainsAt r.held g). inr h) z)) (m.left g x);
        came = λ g x. ⊎_elim
            (λ (h : ContainsAt r.fresh g). ⊎_elim (λ (z : ContainsAt fs g). stay g (inl z)) (λ (z : own ≡ g). inr (new g z)) (has_push_cases fs own g (subst (λ (xs : List Fixup). ContainsAt xs g) fresh h)))
            (λ (h : ContainsAt r.held g). stay g (inr h)) x;
        done = λ g t. inr (at, subst (λ (h : Fixup). ByVeneer i start s r h at) (sym t) b);
      }
