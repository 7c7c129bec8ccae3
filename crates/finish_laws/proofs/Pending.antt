-- Which labels are pending: those of the deferred traps and of the requested constants.
use Rattle.std.proofs.Common.{◌≡◌, ℕ, ◌<◌, true, ◌≢◌, ◌⊎◌, List, [], ◌∷◌, ◌++◌, map, length, set, Some, None, Option, sym, ap, ◌∙◌, subst, inl, inr, append_assoc, append-nil}
use Rattle.std.specs.List.{AllByRecursion}
use Rattle.std.proofs.lemmas.Bool.{cases_eq}
use Rattle.std.proofs.lemmas.Option.{none-some}
use Rattle.std.proofs.lemmas.List.{get_or-set_same, get_or-set_other, map_push}
use Rattle.model.specs.declared.rows.Label.{Label}
use Rattle.model.specs.declared.rows.DeferredTrap.{DeferredTrap}
use Rattle.model.specs.declared.rows.Constant.{Constant}
use Rattle.model.specs.Labels.{unbound, label_row, bound_at, bound_if}
use Rattle.label_laws.specs.Sound.{label_of, pending}
use Rattle.label_laws.proofs.Distinct.{all_out, all_in}
use Rattle.label_laws.proofs.Tables.{registered_label}
use Rattle.finish_laws.proofs.Unplaced.{Unplaced, pushed_unplaced, bound_if_unplaced}

-- what is not pending is placed, was never reserved, or has become an alias
abbrev pub AllPending : List Label → List DeferredTrap → List Constant → List ℕ → Type 0
AllPending ls ds cs ns = (l : ℕ) → AllByRecursion (λ z. z ≢ Some l) (pending ds cs ns) → Unplaced (label_row ls l) → ⊥

-- constants whose labels are others stay so
others_before : (cs : List Constant) (n : ℕ) (l : Option ℕ) (x : Constant) → label_of cs n ≢ l → (ns : List ℕ) → AllByRecursion (λ z. z ≢ l) (map (label_of (set cs n x)) ns) → AllByRecursion (λ z. z ≢ l) (map (label_of cs) ns)
others_before cs n l x h [] a = tt
others_before cs n l x h (m ∷ ns) a = (by (cases_eq m n), others_before cs n l x h ns a.1)
  where
    by : (m ≡ n) ⊎ (m ≡ n → ⊥) → label_of cs m ≢ l
    by (inl e) z = h (ap (label_of cs) (sym e) ∙ z)
    by (inr d) z = a.0 (ap (λ (c : Constant). c.label) (get_or-set_other cs n m x (record { size = 0; align = 1; label = None }) d) ∙ z)

registered_before : (cs : List Constant) (size align : ℕ) (l : Option ℕ) (ns : List ℕ) → AllByRecursion (λ z. z ≢ l) (map (label_of (cs ++ record { size = size; align = align; label = None } ∷ [])) ns) → AllByRecursion (λ z. z ≢ l) (map (label_of cs) ns)
registered_before cs size align l [] a = tt
registered_before cs size align l (n ∷ ns) a = (λ z. a.0 (registered_label cs size align n ∙ z), registered_before cs size align l ns a.1)

-- the labels pending after another table of constants
all_first : (P : Option ℕ → Type 0) (xs ys zs : List (Option ℕ)) → (AllByRecursion P ys → AllByRecursion P zs) → AllByRecursion P (xs ++ ys) → AllByRecursion P (xs ++ zs)
all_first P [] ys zs f a = f a
all_first P (x ∷ xs) ys zs f a = (a.0, all_first P xs ys zs f a.1)

module _ (ls : List Label) (ds : List DeferredTrap) (cs : List Constant) (ns : List ℕ) where
  abbrev traps_labels : List (Option ℕ)
  traps_labels = map (λ (d : DeferredTrap). Some d.label) ds

  -- a trap is deferred
  pub trap_pending : (code : ℕ) → AllPending ls ds cs ns → AllPending (ls ++ unbound true ∷ []) (ds ++ record { label = length ls; code = code } ∷ []) cs ns
  trap_pending code k l a u =
      let e : pending (ds ++ record { label = length ls; code = code } ∷ []) cs ns ≡ traps_labels ++ Some (length ls) ∷ map (label_of cs) ns = ap (λ (zs : List (Option ℕ)). zs ++ map (label_of cs) ns) (map_push (λ (d : DeferredTrap). Some d.label) ds (record { label = length ls; code = code })) ∙ append_assoc traps_labels (Some (length ls) ∷ []) (map (label_of cs) ns) in
      let o = all_out (λ z. z ≢ Some l) (Some (length ls)) traps_labels (map (label_of cs) ns) (subst (AllByRecursion (λ z. z ≢ Some l)) e a) in
      k l o.1 (pushed_unplaced ls true l (λ z. o.0 (ap Some (sym z))) u)

  pub registered_pending : (size align : ℕ) → AllPending ls ds cs ns → AllPending ls ds (cs ++ record { size = size; align = align; label = None } ∷ []) ns
  registered_pending size align k l a u = k l (all_first (λ z. z ≢ Some l) traps_labels _ _ (registered_before cs size align (Some l) ns) a) u

  -- a constant is requested
  pub constant_pending : (n : ℕ) (x : Constant) → x.label ≡ Some (length ls) → n < length cs → label_of cs n ≡ None → AllPending ls ds cs ns → AllPending (ls ++ unbound true ∷ []) ds (set cs n x) (ns ++ n ∷ [])
  constant_pending n x new h free k l a u =
      let this : label_of (set cs n x) n ≡ Some (length ls) = ap (λ (c : Constant). c.label) (get_or-set_same cs n x (record { size = 0; align = 1; label = None }) h) ∙ new in
      let m : map (label_of (set cs n x)) (ns ++ n ∷ []) ≡ map (label_of (set cs n x)) ns ++ Some (length ls) ∷ [] = map_push (label_of (set cs n x)) ns n ∙ rw this in
      let e : pending ds (set cs n x) (ns ++ n ∷ []) ≡ (traps_labels ++ map (label_of (set cs n x)) ns) ++ Some (length ls) ∷ [] = ap (λ (zs : List (Option ℕ)). traps_labels ++ zs) m ∙ sym (append_assoc traps_labels (map (label_of (set cs n x)) ns) (Some (length ls) ∷ [])) in
      let o = all_out (λ z. z ≢ Some l) (Some (length ls)) (traps_labels ++ map (label_of (set cs n x)) ns) [] (subst (AllByRecursion (λ z. z ≢ Some l)) e a) in
      let v = pushed_unplaced ls true l (λ z. o.0 (ap Some (sym z))) u in
      let other : label_of cs n ≢ Some l = λ z. none-some l (sym free ∙ z) in
      k l (all_first (λ z. z ≢ Some l) traps_labels _ _ (others_before cs n (Some l) x other ns) (rw append-nil at o.1)) v

  -- the first deferred trap is written
  pub trap_placed : (d : DeferredTrap) (at : ℕ) → AllPending ls (d ∷ ds) cs ns → AllPending (bound_at ls d.label at) ds cs ns
  trap_placed d at k l a u = let b = bound_if_unplaced ls (Some d.label) at l u in k l (b.0, a) b.1

  -- the first requested constant is placed
  pub constant_placed : (n : ℕ) (x : Constant) (at : ℕ) → AllPending ls ds cs (n ∷ ns) → AllPending (bound_if ls (label_of cs n) at) ds (set cs n x) ns
  constant_placed n x at k l a u =
      let b = bound_if_unplaced ls (label_of cs n) at l u in
      k l (all_in (λ z. z ≢ Some l) (label_of cs n) traps_labels (map (label_of cs) ns) b.0 (all_first (λ z. z ≢ Some l) traps_labels _ _ (others_before cs n (Some l) x b.0 ns) a)) b.1
