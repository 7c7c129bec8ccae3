-- Following aliases: as many steps as there are labels are enough, since a way that ends has no label twice.
use Rattle.std.proofs.Common.{◌≡◌, ℕ, zero, suc, ◌-◌, ◌<◌, ◌≤◌, List, length, Some, None, Option, unwrap_or, option_map, sym, refl, ap, ◌∙◌, subst, ⊎_elim, arith}
use Rattle.std.proofs.lemmas.Option.{none-some, same_Some}
use Rattle.model.specs.declared.rows.Label.{Label}
use Rattle.model.specs.Labels.{alias_in, label_row, root_within, root}
use Rattle.model.proofs.Labels.{cases_place}
use Rattle.label_laws.specs.Leads.{Leads, here, on, Ends}
use Rattle.label_laws.proofs.Pigeonhole.{pigeonhole}

-- the aliases of a table are labels of it
abbrev pub Within : List Label → Type 0
Within ls = (l a : ℕ) → alias_in (label_row ls l).place ≡ Some a → a < length ls

module _ (ls : List Label) where
  -- a label that is no alias stays, and one that is leads further
  stays : (n l : ℕ) → alias_in (label_row ls l).place ≡ None → root_within n ls l ≡ l
  stays zero l h = refl
  stays (suc n) l h = ap (λ (o : Option ℕ). unwrap_or (option_map (λ a. root_within n ls a) o) l) h

  goes_on : (n l a : ℕ) → alias_in (label_row ls l).place ≡ Some a → root_within (suc n) ls l ≡ root_within n ls a
  goes_on n l a h = ap (λ (o : Option ℕ). unwrap_or (option_map (λ b. root_within n ls b) o) l) h

  -- how many aliases a way has
  steps : {l m : ℕ} → Leads ls l m → ℕ
  steps (here h) = 0
  steps (on a h p) = suc (steps p)

  -- two ways from one label are as long, and end at one label
  one_length : {l m k n : ℕ} → l ≡ k → (p : Leads ls l m) (q : Leads ls k n) → steps p ≡ steps q
  unfolding steps
  one_length e (here h) (here k) = refl
  one_length e (here h) (on a k q) = absurd (none-some a (sym h ∙ (ap (λ (x : ℕ). alias_in (label_row ls x).place) e ∙ k)))
  one_length e (on a h p) (here k) = absurd (none-some a (sym k ∙ (ap (λ (x : ℕ). alias_in (label_row ls x).place) (sym e) ∙ h)))
  one_length e (on a h p) (on b k q) = ap suc (one_length (same_Some a b (sym h ∙ (ap (λ (x : ℕ). alias_in (label_row ls x).place) e ∙ k))) p q)

  one_end : {l m k n : ℕ} → l ≡ k → Leads ls l m → Leads ls k n → m ≡ n
  one_end e (here h) (here k) = e
  one_end e (here h) (on a k q) = absurd (none-some a (sym h ∙ (ap (λ (x : ℕ). alias_in (label_row ls x).place) e ∙ k)))
  one_end e (on a h p) (here k) = absurd (none-some a (sym k ∙ (ap (λ (x : ℕ). alias_in (label_row ls x).place) (sym e) ∙ h)))
  one_end e (on a h p) (on b k q) = one_end (same_Some a b (sym h ∙ (ap (λ (x : ℕ). alias_in (label_row ls x).place) e ∙ k))) p q

  -- where a way ends is no alias
  pub end_unaliased : {l m : ℕ} → Leads ls l m → alias_in (label_row ls m).place ≡ None
  end_unaliased (here h) = h
  end_unaliased (on a h p) = end_unaliased p

  -- the rest of a way
  rest : (n : ℕ) {l m : ℕ} (p : Leads ls l m) → (q : Leads ls (root_within n ls l) m) × (steps q ≡ steps p - n)
  unfolding steps
  rest zero p = (p, omega arith)
  rest (suc n) {l} {m} (here h) = subst (λ (x : ℕ). (q : Leads ls x l) × (steps q ≡ 0 - suc n)) (sym (stays (suc n) l h)) (here h, omega arith)
  rest (suc n) {l} {m} (on a h p) =
      let r = rest n p in
      subst (λ (x : ℕ). (q : Leads ls x m) × (steps q ≡ suc (steps p) - suc n)) (sym (goes_on n l a h)) (r.0, omega (arith, r.1))

  -- a way is followed to its end
  reached : (n : ℕ) {l m : ℕ} (p : Leads ls l m) → steps p ≤ n → root_within n ls l ≡ m
  unfolding steps
  reached n {l} (here h) k = stays n l h
  reached zero (on a h p) k = let z : ⊥ = omega arith in absurd z
  reached (suc n) {l} (on a h p) k = goes_on n l a h ∙ reached n p (omega arith)

  -- aliases followed stay in the table
  stays_within : Within ls → (n l : ℕ) → l < length ls → root_within n ls l < length ls
  stays_within w zero l h = h
  stays_within w (suc n) l h = ⊎_elim
      (λ (e : alias_in (label_row ls l).place ≡ None). rw (stays (suc n) l e) h)
      (λ (r : (a : ℕ) × (alias_in (label_row ls l).place ≡ Some a)). rw (goes_on n l r.0 r.1) (stays_within w n r.0 (w l r.0 r.1)))
      (cases_place (alias_in (label_row ls l).place))

  short : {l m : ℕ} → Within ls → l < length ls → (p : Leads ls l m) → steps p < length ls
  short {l} w h p =
      pigeonhole (length ls) (suc (steps p)) (λ n. root_within n ls l) (λ n k. stays_within w n l h)
      (λ n k less j e.
      let x = rest n p in
      let y = rest k p in
      let z = one_length e x.0 y.0 in
      omega (arith, x.1, y.1))

  -- what a label leads to is what `root` finds
  pub root_is : {l m : ℕ} → Within ls → l < length ls → Leads ls l m → root ls l ≡ m
  root_is w h p = let k = short w h p in reached (length ls) p (omega arith)

  pub ends : {l m : ℕ} → Within ls → l < length ls → Leads ls l m → Ends ls l
  ends {l} {m} w h p =
      let leads : Leads ls l (root ls l) = subst (λ (x : ℕ). Leads ls l x) (sym (root_is w h p)) p in
      record { leads = leads; nowhere_else = λ n q. one_end refl q leads; unaliased = end_unaliased leads; exists = stays_within w (length ls) l h }
