-- Turning a conditional round.
use Rattle.std.specs.Prelude.{◌≡◌, ℕ, ◌<◌, Bool, true, false, not, T, ◌∷◌, Some, Option, ◌==◌, ◌≢◌, nat_eq, refl}
use Rattle.std.proofs.Common.{sym, ap, ◌∙◌, inl, inr, arith}
use Rattle.std.proofs.lemmas.Bool.{eqb-true, and_parts, cases_Bool, cond-false, false≢true}
use Rattle.bits.specs.Fields.{get, flip, piece}
use Rattle.bits.proofs.Scattered.{apart, laid}
use Rattle.bits.proofs.Senses.{get-flip, sense_flip}
use Rattle.isa.specs.declared.jumps.Condition.{Condition}
use Rattle.isa.specs.declared.jumps.Condition.TheVariants.{Flags, Zero, Bit}
use Rattle.isa.specs.declared.jumps.Role.{Role}
use Rattle.isa.specs.declared.jumps.Role.TheVariants.{Conditional}
use Rattle.isa.proofs.Inversions.{Turning, Conditionals}
use Rattle.isa.proofs.Conditionals.{passed, no_conditional, never_conditional}
use Rattle.isa.specs.Words.{turned}
use Rattle.aarch64.specs.Meaning.{aarch64_words}
use Rattle.aarch64.specs.Roles.{is_kept, is_flags, sense_bit, register_role, test_role, compare_role, flags_role, branch19_role, role_of}
use Rattle.aarch64.specs.KindTables.{below_6}
use Rattle.aarch64.specs.RoleLaws.{p14, p19, flags_bits}

-- a word with bits 30 to 25 of another branch is no B.cond
not_flags : (w n : ℕ) → (n == 0x2a) ≡ false → get 25 6 w ≡ n → is_flags w ≡ false
not_flags w n d e =
    elim (cases_Bool (is_flags w)) [
      | inl f ↦ absurd (false≢true (sym d ∙ ap (λ (m : ℕ). nat_eq m 0x2a) (sym e ∙ flags_bits w f)))
      | inr f ↦ f
    ]

-- where the sense of a conditional's word stands
test_sense : (w : ℕ) (c : Condition) (s : Bool) → test_role w ≡ Some (Conditional c s) → sense_bit w ≡ 24
test_sense w c s e =
    let t = (and_parts (get 25 6 w == 0x1b) (is_kept w) (passed _ _ c _ s e).test).0 in
    cond-false (is_flags w) 0 24 (not_flags w 0x1b refl (eqb-true (get 25 6 w) 0x1b t))

-- a register's test keeps its place outside the sense
register_turned : (f : ℕ → ℕ → Condition) (n a b w : ℕ) (c : Condition) (s : Bool) → T (apart (piece 24 1 0) (piece a b 0))
    → register_role n (f (get a b w) (get 0 5 w)) w ≡ Some (Conditional c s)
    → register_role n (f (get a b (flip 24 w)) (get 0 5 (flip 24 w))) (flip 24 w) ≡ Some (Conditional c (not s))
register_turned f n a b w c s t e =
    let k = get-flip 24 in
    let p = passed _ _ c _ s e in
    rw (k a b w t, k 25 6 w tt, k 1 4 w tt, k 0 5 w tt, sense_flip 24 w, p.test, p.sense) (ap (λ (x : Condition). Some (Conditional x (not s))) p.condition)

flags_turned : (w : ℕ) (c : Condition) (s : Bool) → flags_role w ≡ Some (Conditional c s) → flags_role (flip 0 w) ≡ Some (Conditional c (not s))
flags_turned w c s e =
    let k = get-flip 0 in
    let p = passed _ _ c _ s e in
    rw (k 24 1 w tt, k 4 1 w tt, k 1 3 w tt, sense_flip 0 w, p.test, p.sense) (ap (λ (x : Condition). Some (Conditional x (not s))) p.condition)

-- by the two ways of a Branch19
by_flags : (w : ℕ) (P : ℕ → Option Role → Type 0) → (is_flags w ≡ true → P 0 (flags_role w)) → (is_flags w ≡ false → P 24 (compare_role w)) → P (sense_bit w) (branch19_role w)
by_flags w P f g =
    elim (cases_Bool (is_flags w)) [
      | inl e ↦ rw e (f e)
      | inr e ↦ rw e (g e)
    ]

test_turned : (w : ℕ) (c : Condition) (s : Bool) → test_role w ≡ Some (Conditional c s) → test_role (turned aarch64_words w) ≡ Some (Conditional c (not s))
test_turned w c s e = ap (λ (p : ℕ). test_role (flip p w)) (test_sense w c s e) ∙ register_turned (λ t r. Bit t r) 0x1b 19 5 w c s tt e

turned_19 : (w : ℕ) (c : Condition) (s : Bool) → branch19_role w ≡ Some (Conditional c s) → branch19_role (turned aarch64_words w) ≡ Some (Conditional c (not s))
turned_19 w c s =
    by_flags w (λ p r. r ≡ Some (Conditional c s) → branch19_role (flip p w) ≡ Some (Conditional c (not s)))
    (λ f e. rw (get-flip 0 25 7 w tt, f) (flags_turned w c s e))
    (λ f e. rw (get-flip 24 25 7 w tt, f) (register_turned (λ t r. Zero t r) 0x1a 31 1 w c s tt e))

-- turning does not move the sense
sense_turned : (w : ℕ) → sense_bit (turned aarch64_words w) ≡ sense_bit w
sense_turned w =
    elim (cases_Bool (is_flags w)) [
      | inl e ↦ rw e (rw (get-flip 0 25 7 w tt, e))
      | inr e ↦ rw e (rw (get-flip 24 25 7 w tt, e))
    ]

-- the two ways have their sense apart from the field
apart_19 : (w : ℕ) → T (laid 32 (piece (sense_bit w) 1 0 ∷ p19))
apart_19 w =
    elim (cases_Bool (is_flags w)) [
      | inl e ↦ rw e tt
      | inr e ↦ rw e tt
    ]

sense_19 : (w : ℕ) (c : Condition) (s : Bool) → branch19_role w ≡ Some (Conditional c s) → nat_eq (get (sense_bit w) 1 w) 1 ≡ s
sense_19 w c s =
    by_flags w (λ p r. r ≡ Some (Conditional c s) → nat_eq (get p 1 w) 1 ≡ s)
    (λ f e. (passed _ _ c _ s e).sense) (λ f e. (passed _ _ c _ s e).sense)

-- and test in different ways
place_19 : (v w : ℕ) (c : Condition) (s : Bool) → branch19_role v ≡ Some (Conditional c s) → branch19_role w ≡ Some (Conditional c s) → sense_bit v ≡ sense_bit w
place_19 v w c s e f =
    elim (cases_Bool (is_flags v)) [
      | inl a ↦ elim (cases_Bool (is_flags w)) [
        | inl b ↦ rw (a, b)
        | inr b ↦ absurd (apart _ _ _ (passed _ _ c _ s (rw a at e)).condition (passed _ _ c _ s (rw b at f)).condition)
      ]
      | inr a ↦ elim (cases_Bool (is_flags w)) [
        | inl b ↦ absurd (apart _ _ _ (passed _ _ c _ s (rw b at f)).condition (passed _ _ c _ s (rw a at e)).condition)
        | inr b ↦ rw (a, b)
      ]
    ]
  where
    apart : (l m n : ℕ) → Flags l ≡ c → Zero m n ≢ c
    apart l m n g h = let z : ◌≡◌ {A = ℕ} 0 1 = cc in omega arith

-- only words of the first two kinds are conditional
by_kind : (P : ℕ → Type 0) (w : ℕ) (c : Condition) (s : Bool) → (test_role w ≡ Some (Conditional c s) → P 0) → (branch19_role w ≡ Some (Conditional c s) → P 1)
    → (k : ℕ) → k < 6 → role_of k w ≡ Some (Conditional c s) → P k
by_kind P w c s f g =
    below_6 (λ k. role_of k w ≡ Some (Conditional c s) → P k) f g (λ e. absurd (no_conditional _ c s e))
    (λ e. absurd (never_conditional c s e)) (λ e. absurd (never_conditional c s e)) (λ e. absurd (never_conditional c s e))

pub conditionals : Conditionals aarch64_words
conditionals = record {
  turning = λ k w c s. by_kind (λ k. Turning aarch64_words k w c s) w c s
      (λ e. record {
        field = p14;
        top = 15;
        format_is = refl;
        apart = rw (test_sense w c s e) tt;
        sense_is = rw (test_sense w c s e) (passed _ _ c _ s e).sense;
        sense_turned = sense_turned w;
        role_turned = test_turned w c s e;
      })
      (λ e. record {
        field = p19;
        top = 20;
        format_is = refl;
        apart = apart_19 w;
        sense_is = sense_19 w c s e;
        sense_turned = sense_turned w;
        role_turned = turned_19 w c s e;
      })
      k;
  one_place = λ k v w c s. by_kind (λ k. role_of k w ≡ Some (Conditional c s) → sense_bit v ≡ sense_bit w) v c s
      (λ e f. test_sense v c s e ∙ sym (test_sense w c s f)) (place_19 v w c s) k;
}
