-- Every edit of the tables keeps them sound.
use Rattle.std.proofs.Common.{◌≡◌, ℕ, zero, suc, ◌<◌, ◌≤◌, Bool, true, false, ◌≢◌, List, [], ◌∷◌, ◌++◌, map, length, set, Some, None, Option, sym, refl, ap, ◌∙◌, subst, append_assoc, arith, length-set}
use Rattle.std.specs.List.{AllByRecursion}
use Rattle.std.proofs.lemmas.Bool.{true≢false}
use Rattle.std.proofs.lemmas.List.{length_push, get_or_push, get_or-set_same, get_or-set_other, map_push}
use Rattle.std.proofs.lemmas.Option.{same_Some}
use Rattle.std.proofs.ByRecursion.{All-push, All-weaker}
use Rattle.model.specs.declared.rows.Label.{Label}
use Rattle.model.specs.declared.rows.Place.TheVariants.{Nowhere}
use Rattle.model.specs.declared.rows.Fixup.{Fixup}
use Rattle.model.specs.declared.rows.Branch.{Branch}
use Rattle.model.specs.declared.rows.DeferredTrap.{DeferredTrap}
use Rattle.model.specs.declared.rows.Constant.{Constant}
use Rattle.model.specs.Capacities.{max_labels}
use Rattle.model.specs.Labels.{unbound, label_row, bound_at, bound_if}
use Rattle.label_laws.specs.Sound.{Orderly, UseAmong, BranchAmong, Waits, Awaited, label_of, pending, Distinct, Tables}
use Rattle.label_laws.proofs.Distinct.{all_second, all_out, all_in, distinct_out, distinct_in, distinct_push}
use Rattle.label_laws.proofs.Edits.{Keeps, pushed_row, pushed_keeps, bound_row, bound_keeps}

-- what is among some labels is among more
pub uses_among : (n m : ℕ) → n ≤ m → (fs : List Fixup) → AllByRecursion (UseAmong n) fs → AllByRecursion (UseAmong m) fs
uses_among n m h = All-weaker (UseAmong n) (UseAmong m) (λ f u. omega arith)

pub branches_among : (n m : ℕ) → n ≤ m → (bs : List Branch) → AllByRecursion (BranchAmong n) bs → AllByRecursion (BranchAmong m) bs
branches_among n m h = All-weaker (BranchAmong n) (BranchAmong m) (λ b u. record { forward = u.forward; room = u.room; target = omega (arith, u.target) })

-- what keeps each label that waits keeps all that are awaited
awaited_on : (ls us : List Label) → ((l : ℕ) → Waits ls l → Waits us l) → (o : Option ℕ) → Awaited ls o → Awaited us o
awaited_on ls us w None a = a
awaited_on ls us w (Some l) a = w l a

module _ (ls us : List Label) (bs : List Branch) (fs hs : List Fixup) (k : Keeps ls us) where
  -- an edit of the labels, with other pending ones
  pub tables_with : (ds es : List DeferredTrap) (cs ks : List Constant) (ns ms : List ℕ) → AllByRecursion (Awaited us) (pending es ks ms) → Distinct (pending es ks ms) → Tables ls bs fs hs ds cs ns → Tables us bs fs hs es ks ms
  tables_with ds es cs ks ns ms w a t = record {
    labels = k.orderly;
    branches = branches_among (length ls) (length us) k.later.more bs t.branches;
    fresh = uses_among (length ls) (length us) k.later.more fs t.fresh;
    held = uses_among (length ls) (length us) k.later.more hs t.held;
    waits = w;
    apart = a;
  }

  -- an edit of the labels, by which those that wait still do
  pub tables_kept : (ds : List DeferredTrap) (cs : List Constant) (ns : List ℕ) → ((l : ℕ) → Waits ls l → Waits us l) → Tables ls bs fs hs ds cs ns → Tables us bs fs hs ds cs ns
  tables_kept ds cs ns w t = tables_with ds ds cs cs ns ns (All-weaker (Awaited ls) (Awaited us) (awaited_on ls us w) (pending ds cs ns) t.waits) t.apart t

-- a label that is awaited is none of those to come
awaited_not_new : (ls : List Label) (o : Option ℕ) → Awaited ls o → o ≢ Some (length ls)
awaited_not_new ls None a e = a
awaited_not_new ls (Some l) a e = let x = a.exists in let d = same_Some l (length ls) e in let z : ⊥ = omega arith in z

-- one label more
pub waits_pushed : (ls : List Label) (r : Bool) (l : ℕ) → Waits ls l → Waits (ls ++ unbound r ∷ []) l
waits_pushed ls r l w = record { exists = rw length_push (omega (arith, w.exists)); row = pushed_row ls r l w.exists ∙ w.row }

pushed_waits : (ls : List Label) → Waits (ls ++ unbound true ∷ []) (length ls)
pushed_waits ls = record { exists = rw length_push (omega arith); row = get_or_push ls (unbound true) (unbound false) (length ls) refl }

-- one label bound
still_waits : (ls : List Label) (l at p : ℕ) → Waits ls p → p ≢ l → Waits (bound_at ls l at) p
still_waits ls l at p w h = record { exists = rw length-set w.exists; row = bound_row ls l at p h ∙ w.row }

still_awaited : (ls : List Label) (l at : ℕ) (o : Option ℕ) → Awaited ls o → o ≢ Some l → Awaited (bound_at ls l at) o
still_awaited ls l at None a h = a
still_awaited ls l at (Some p) a h = still_waits ls l at p a (λ e. h (ap Some e))

awaited_bound : (ls : List Label) (l : Option ℕ) (at : ℕ) (ps : List (Option ℕ)) → Awaited ls l → AllByRecursion (Awaited ls) ps → AllByRecursion (λ z. z ≢ l) ps → AllByRecursion (Awaited (bound_if ls l at)) ps
awaited_bound ls l at [] p w a = tt
awaited_bound ls None at (o ∷ ps) p w a = absurd p
awaited_bound ls (Some l) at (o ∷ ps) p w a = (still_awaited ls l at o w.0 a.0, awaited_bound ls (Some l) at ps p w.1 a.1)

waiting_keeps : (ls : List Label) (l at : ℕ) → Orderly ls → Waits ls l → Keeps ls (bound_at ls l at)
waiting_keeps ls l at o w = bound_keeps ls l at (ap (λ (x : Label). x.place) w.row) o

awaited_keeps : (ls : List Label) (l : Option ℕ) (at : ℕ) → Orderly ls → Awaited ls l → Keeps ls (bound_if ls l at)
awaited_keeps ls None at o a = absurd a
awaited_keeps ls (Some l) at o a = waiting_keeps ls l at o a

-- one constant changes, and those of other labels keep theirs
other_labels : (cs : List Constant) (n : ℕ) (x : Constant) (ns : List ℕ) → AllByRecursion (λ z. z ≢ label_of cs n) (map (label_of cs) ns) → map (label_of (set cs n x)) ns ≡ map (label_of cs) ns
other_labels cs n x [] a = refl
other_labels cs n x (m ∷ ns) a =
    let e : label_of (set cs n x) m ≡ label_of cs m = ap (λ (c : Constant). c.label) (get_or-set_other cs n m x (record { size = 0; align = 1; label = None }) (λ z. a.0 (ap (label_of cs) z))) in
    let r = other_labels cs n x ns a.1 in
    cc

-- a constant is registered
pub registered_label : (cs : List Constant) (size align n : ℕ) → label_of (cs ++ record { size = size; align = align; label = None } ∷ []) n ≡ label_of cs n
registered_label [] size align zero = refl
registered_label [] size align (suc n) = refl
registered_label (c ∷ cs) size align zero = refl
registered_label (c ∷ cs) size align (suc n) = registered_label cs size align n

registered_labels : (cs : List Constant) (size align : ℕ) (ns : List ℕ) → map (label_of (cs ++ record { size = size; align = align; label = None } ∷ [])) ns ≡ map (label_of cs) ns
registered_labels cs size align [] = refl
registered_labels cs size align (n ∷ ns) = let e = registered_label cs size align n in let r = registered_labels cs size align ns in cc

module _ (ls : List Label) (bs : List Branch) (fs hs : List Fixup) (ds : List DeferredTrap) (cs : List Constant) (ns : List ℕ) where
  abbrev traps_labels : List (Option ℕ)
  traps_labels = map (λ (d : DeferredTrap). Some d.label) ds

  pub registered : (size align : ℕ) → Tables ls bs fs hs ds cs ns → Tables ls bs fs hs ds (cs ++ record { size = size; align = align; label = None } ∷ []) ns
  registered size align t =
      let e = ap (λ (zs : List (Option ℕ)). traps_labels ++ zs) (sym (registered_labels cs size align ns)) in
      record { labels = t.labels; branches = t.branches; fresh = t.fresh; held = t.held; waits = subst (AllByRecursion (Awaited ls)) e t.waits; apart = subst Distinct e t.apart }

  -- a label for the user
  pub labelled : length ls < max_labels → Tables ls bs fs hs ds cs ns → Tables (ls ++ unbound false ∷ []) bs fs hs ds cs ns
  labelled h t = tables_kept ls (ls ++ unbound false ∷ []) bs fs hs (pushed_keeps ls false h t.labels) ds cs ns (waits_pushed ls false) t

  -- a trap is deferred, under a new label
  pub trap_deferred : (code : ℕ) → length ls < max_labels → Tables ls bs fs hs ds cs ns → Tables (ls ++ unbound true ∷ []) bs fs hs (ds ++ record { label = length ls; code = code } ∷ []) cs ns
  trap_deferred code h t =
      let us = ls ++ unbound true ∷ [] in
      let es = ds ++ record { label = length ls; code = code } ∷ [] in
      let e : traps_labels ++ Some (length ls) ∷ map (label_of cs) ns ≡ pending es cs ns = sym (ap (λ (zs : List (Option ℕ)). zs ++ map (label_of cs) ns) (map_push (λ (d : DeferredTrap). Some d.label) ds (record { label = length ls; code = code })) ∙ append_assoc traps_labels (Some (length ls) ∷ []) (map (label_of cs) ns)) in
      tables_with ls us bs fs hs (pushed_keeps ls true h t.labels) ds es cs cs ns ns
      (subst (AllByRecursion (Awaited us)) e (all_in (Awaited us) (Some (length ls)) traps_labels (map (label_of cs) ns) (pushed_waits ls) (All-weaker (Awaited ls) (Awaited us) (awaited_on ls us (waits_pushed ls true)) (pending ds cs ns) t.waits)))
      (subst Distinct e (distinct_in (Some (length ls)) traps_labels (map (label_of cs) ns) (All-weaker (Awaited ls) (λ z. z ≢ Some (length ls)) (awaited_not_new ls) (pending ds cs ns) t.waits) t.apart))
      t

  -- a constant is requested, under a new label
  pub constant_requested : (n size align : ℕ) → n < length cs → label_of cs n ≡ None → length ls < max_labels → Tables ls bs fs hs ds cs ns → Tables (ls ++ unbound true ∷ []) bs fs hs ds (set cs n (record { size = size; align = align; label = Some (length ls) })) (ns ++ n ∷ [])
  constant_requested n size align h free k t =
      let us = ls ++ unbound true ∷ [] in
      let x : Constant = record { size = size; align = align; label = Some (length ls) } in
      let others : map (label_of (set cs n x)) ns ≡ map (label_of cs) ns =
      other_labels cs n x ns (All-weaker (Awaited ls) (λ z. z ≢ label_of cs n) (λ z w e. subst (Awaited ls) (e ∙ free) w) (map (label_of cs) ns) (all_second (Awaited ls) traps_labels (map (label_of cs) ns) t.waits)) in
      let this : label_of (set cs n x) n ≡ Some (length ls) = ap (λ (c : Constant). c.label) (get_or-set_same cs n x (record { size = 0; align = 1; label = None }) h) in
      let m : map (label_of (set cs n x)) (ns ++ n ∷ []) ≡ map (label_of cs) ns ++ Some (length ls) ∷ [] = map_push (label_of (set cs n x)) ns n ∙ rw (others, this) in
      let e : pending ds cs ns ++ Some (length ls) ∷ [] ≡ pending ds (set cs n x) (ns ++ n ∷ []) = append_assoc traps_labels (map (label_of cs) ns) (Some (length ls) ∷ []) ∙ ap (λ (zs : List (Option ℕ)). traps_labels ++ zs) (sym m) in
      tables_with ls us bs fs hs (pushed_keeps ls true k t.labels) ds ds cs (set cs n x) ns (ns ++ n ∷ [])
      (subst (AllByRecursion (Awaited us)) e (All-push (Awaited us) (pending ds cs ns) (Some (length ls)) (All-weaker (Awaited ls) (Awaited us) (awaited_on ls us (waits_pushed ls true)) (pending ds cs ns) t.waits) (pushed_waits ls)))
      (subst Distinct e (distinct_push (Some (length ls)) (pending ds cs ns) (All-weaker (Awaited ls) (λ z. z ≢ Some (length ls)) (awaited_not_new ls) (pending ds cs ns) t.waits) t.apart))
      t

  -- the first deferred trap is written, and its label bound
  pub trap_keeps : (d : DeferredTrap) (at : ℕ) → Tables ls bs fs hs (d ∷ ds) cs ns → Keeps ls (bound_at ls d.label at)
  trap_keeps d at t = waiting_keeps ls d.label at t.labels t.waits.0

  pub trap_written : (d : DeferredTrap) (at : ℕ) → Tables ls bs fs hs (d ∷ ds) cs ns → Tables (bound_at ls d.label at) bs fs hs ds cs ns
  trap_written d at t =
      tables_with ls (bound_at ls d.label at) bs fs hs (trap_keeps d at t) (d ∷ ds) ds cs cs ns ns (awaited_bound ls (Some d.label) at (pending ds cs ns) t.waits.0 t.waits.1 t.apart.0) t.apart.1 t

  -- the first requested constant is placed, and its label bound
  pub constant_keeps : (n at : ℕ) → Tables ls bs fs hs ds cs (n ∷ ns) → Keeps ls (bound_if ls (label_of cs n) at)
  constant_keeps n at t = awaited_keeps ls (label_of cs n) at t.labels (all_out (Awaited ls) (label_of cs n) traps_labels (map (label_of cs) ns) t.waits).0

  pub constant_placed : (n at : ℕ) (x : Constant) → Tables ls bs fs hs ds cs (n ∷ ns) → Tables (bound_if ls (label_of cs n) at) bs fs hs ds (set cs n x) ns
  constant_placed n at x t =
      let us = bound_if ls (label_of cs n) at in
      let w = all_out (Awaited ls) (label_of cs n) traps_labels (map (label_of cs) ns) t.waits in
      let a = distinct_out (label_of cs n) traps_labels (map (label_of cs) ns) t.apart in
      let others = other_labels cs n x ns (all_second (λ z. z ≢ label_of cs n) traps_labels (map (label_of cs) ns) a.0) in
      let e : pending ds cs ns ≡ pending ds (set cs n x) ns = ap (λ (zs : List (Option ℕ)). traps_labels ++ zs) (sym others) in
      tables_with ls us bs fs hs (constant_keeps n at t) ds ds cs (set cs n x) (n ∷ ns) ns
      (subst (AllByRecursion (Awaited us)) e (awaited_bound ls (label_of cs n) at (pending ds cs ns) w.0 w.1 a.0))
      (subst Distinct e a.1)
      t

  -- a label that was free is bound
  pub bound : (l at : ℕ) → (label_row ls l).place ≡ Nowhere → (label_row ls l).reserved ≡ false → Tables ls bs fs hs ds cs ns → Tables (bound_at ls l at) bs fs hs ds cs ns
  bound l at nowhere free t =
      let other : (p : ℕ) → Waits ls p → p ≢ l = λ p w e. true≢false (sym (ap (λ (x : Label). x.reserved) w.row) ∙ ap (λ (q : ℕ). (label_row ls q).reserved) e ∙ free) in
      tables_kept ls (bound_at ls l at) bs fs hs (bound_keeps ls l at nowhere t.labels) ds cs ns (λ p w. still_waits ls l at p w (other p w)) t
