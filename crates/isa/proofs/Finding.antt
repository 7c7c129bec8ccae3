-- A branch that begins at an offset of some code is found, where no other kind takes its bytes for a branch.
use Rattle.std.proofs.Common.{◌≡◌, ℕ, Bool, true, false, ◌||◌, T, eqb, leb, ◌⊎◌, List, [], ◌∷◌, ◌++◌, length, take, drop, ℤ, pos, ◌+ℤ◌, Some, None, Option, is_some, option_map, sym, refl, ap, subst, ◌∙◌, append-nil, inl, inr, arith, le→leb, eqb→eq, length-append, take_at}
use lib.Seq.{drop-append_seam}
use Rattle.std.specs.Option.{option_or}
use Rattle.std.proofs.lemmas.Int.{ints}
use Rattle.std.proofs.lemmas.Bool.{cases_Bool, false≢true, true≢false, cond-true}
use Rattle.isa.specs.declared.jumps.Jump.{Jump}
use Rattle.isa.specs.declared.jumps.Jump.TheVariants.{Branch}
use Rattle.isa.specs.declared.jumps.Role.{Role}
use Rattle.isa.specs.declared.jumps.Role.TheVariants.{Unconditional}
use Rattle.isa.specs.Finding.{role_at, branch_among}
use Rattle.isa.specs.Isa.{Isa}
use Rattle.isa.specs.Laws.{Leads}

abbrev pub holds : ℕ → List ℕ → Bool
holds k [] = false
holds k (j ∷ js) = eqb k j || holds k js

or_cases : (a b : Bool) → T (a || b) → T a ⊎ T b
or_cases true b t = inl tt
or_cases false b t = inr t

no_role : (o : Option Role) → is_some o ≡ false → o ≡ None
no_role None e = refl
no_role (Some r) e = absurd (true≢false e)

-- the role of the head of the code is that of the bytes there
at_head : (n : ℕ) (role : List ℕ → Option Role) (b after : List ℕ) → length b ≡ n → role_at n role (b ++ after) ≡ role b
at_head n role b after l = cond-true (leb n (length (b ++ after))) (role (take n (b ++ after))) None (is_true _ long) ∙ ap role (take_at b after n l)
  where
    long : T (leb n (length (b ++ after)))
    long = le→leb _ _ (simp length-append (omega arith))

    is_true : (x : Bool) → T x → x ≡ true
    is_true true t = refl
    is_true false t = absurd t

module _ (size : ℕ → ℕ) (role : ℕ → List ℕ → Option Role) (reads : ℕ → List ℕ → ℤ) where
  abbrev at : ℕ → List ℕ → Option Role
  at k code = role_at (size k) (role k) code

  -- the branch of kind k that has the role, if any, else what else is found
  abbrev either : ℕ → List ℕ → Option Jump → Option Role → Option Jump
  either k code rest o = option_or (option_map (λ r. Branch r (size k) (reads k (take (size k) code))) o) rest

  -- the only kind for which the head of the code is a branch is found
  among : (k : ℕ) (ks : List ℕ) (code : List ℕ) (r : Role) → T (holds k ks) → at k code ≡ Some r → ((j : ℕ) → is_some (at j code) ≡ true → j ≡ k)
      → branch_among size role reads ks code ≡ Some (Branch r (size k) (reads k (take (size k) code)))
  among k [] code r m t only = absurd m
  among k (j ∷ ks) code r m t only =
      let rest = branch_among size role reads ks code in
      elim (cases_Bool (is_some (at j code))) [
        | inl e ↦ ap (λ (n : ℕ). either n code rest (at n code)) (only j e) ∙ ap (either k code rest) t
        | inr e ↦ ap (either j code rest) (no_role (at j code) e) ∙ elim (or_cases (eqb k j) (holds k ks) m) [
          | inl q ↦ absurd (false≢true (sym e ∙ ap (λ (n : ℕ). is_some (at n code)) (sym (eqb→eq k j q)) ∙ ap is_some t))
          | inr q ↦ among k ks code r q t only
        ]
      ]

  pub found : (k : ℕ) (ks : List ℕ) (p before after : List ℕ) (r : Role) → T (holds k ks) → length p ≡ size k → role k p ≡ Some r
      → ((j : ℕ) → is_some (role_at (size j) (role j) (p ++ after)) ≡ true → j ≡ k)
      → branch_among size role reads ks (drop (length before) (before ++ (p ++ after))) ≡ Some (Branch r (size k) (reads k p))
  found k ks p before after r m l b only =
      ap (λ (c : List ℕ). branch_among size role reads ks c) (drop-append_seam before (p ++ after))
      ∙ among k ks (p ++ after) r m (at_head (size k) (role k) p after l ∙ b) only
      ∙ ap (λ (q : List ℕ). Some (Branch r (size k) (reads k q))) (take_at p after (size k) l)

-- where the kinds have one size, the branch that is found has the bytes at the head
pub one_size : (i : Isa) (n j : ℕ) (b after : List ℕ) → length b ≡ n → is_some (role_at n (i.role j) (b ++ after)) ≡ true → is_some (i.role j b) ≡ true
one_size i n j b after l h = ap is_some (sym (at_head n (i.role j) b after l)) ∙ h

from_zero : (d : ℤ) → d ≡ pos 0 +ℤ d
from_zero d = omega (arith, ints)

-- a word that always jumps, patched, leads to its target
pub jump_leads : (i : Isa) (k : ℕ) (b : List ℕ) (n : ℕ) (d : ℤ) (before after : List ℕ)
    → i.find (before ++ (i.patched k b d ++ after)) (length before) ≡ Some (Branch Unconditional n d)
    → Leads (i.find (before ++ ((i.patched k b d ++ []) ++ after)) (length before)) (pos 0 +ℤ d)
jump_leads i k b n d before after found =
    let e : i.find (before ++ ((i.patched k b d ++ []) ++ after)) (length before) ≡ Some (Branch Unconditional n d) =
    ap (λ (c : List ℕ). i.find (before ++ (c ++ after)) (length before)) (append-nil (i.patched k b d)) ∙ found in
    subst (λ (f : Option Jump). Leads f (pos 0 +ℤ d)) (sym e) (refl, from_zero d)
