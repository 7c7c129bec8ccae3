-- Sets whose displacements stand in formats of `bits`: the laws of fields, and of finding a branch, once for all.
use Rattle.std.proofs.Common.{◌≡◌, ℕ, ◌%◌, ◌^◌, ◌<◌, true, T, List, ◌++◌, length, drop, ℤ, pos, Some, is_some, nat_abs, sym, ap, ◌∙◌, subst}
use lib.Signed.{mag}
use Rattle.bits.specs.Formats.{Format, width, reading, patching, clearing}
use Rattle.bits.specs.Words.{Octets}
use Rattle.bits.proofs.FormatLaws.{top, good, Fresh, length-patching, octets_patching, reading-patching, clearing-patching, determined}
use Rattle.isa.specs.declared.jumps.Jump.{Jump}
use Rattle.isa.specs.declared.jumps.Jump.TheVariants.{Branch}
use Rattle.isa.specs.declared.jumps.Role.{Role}
use Rattle.isa.specs.Finding.{role_at, branch_among}
use Rattle.isa.specs.Isa.{Isa, Reaches, Patchable}
use Rattle.isa.specs.Laws.{OfKind}
use Rattle.isa.proofs.Finding.{holds, found}

-- each kind's field is a good format for multiples of 2 ^ e, and holds what the kind reaches
pub record Formatted (i : Isa) (f : ℕ → Format) (e : ℕ) : Type 0 where
  pub aligned : i.align ≡ 2 ^ e
  pub fits : (k : ℕ) → k < i.kinds → T (good e (f k))
  pub wide : (k : ℕ) → k < i.kinds → width (f k) ≡ i.size k
  pub near : (k : ℕ) → k < i.kinds → (d : ℤ) → Reaches i k d → mag d < 2 ^ top (f k)
  pub fresh : (k : ℕ) → k < i.kinds → (b : List ℕ) → (i.adds k ≡ true → i.reads k b ≡ pos 0) → Fresh (f k) b
  pub patched_is : (k : ℕ) (b : List ℕ) (d : ℤ) → i.patched k b d ≡ patching (f k) b d
  pub reads_is : (k : ℕ) (b : List ℕ) → i.reads k b ≡ reading (f k) b
  pub outside_is : (k : ℕ) (b : List ℕ) → i.outside k b ≡ clearing (f k) b

module _ {i : Isa} {f : ℕ → Format} {e : ℕ} (s : Formatted i f e) where
  pub patched_long : (k : ℕ) (b : List ℕ) (d : ℤ) → Patchable i k b d → length (i.patched k b d) ≡ i.size k
  patched_long k b d p = ap length (s.patched_is k b d) ∙ length-patching (f k) b d ∙ s.wide k p.kind

  pub patched_octets : (k : ℕ) (b : List ℕ) (d : ℤ) → Patchable i k b d → Octets (i.patched k b d)
  patched_octets k b d p = subst Octets (sym (s.patched_is k b d)) (octets_patching (f k) b d)

  pub reads_patched : (k : ℕ) (b : List ℕ) (d : ℤ) → Patchable i k b d → i.reads k (i.patched k b d) ≡ d
  reads_patched k b d p =
      s.reads_is k (i.patched k b d) ∙ ap (reading (f k)) (s.patched_is k b d)
      ∙ reading-patching e (f k) b d (s.fits k p.kind) (s.near k p.kind d p.reach)
      (ap (λ (n : ℕ). nat_abs d % n) (sym s.aligned) ∙ p.reach.whole) (s.fresh k p.kind b p.fresh)

  pub outside_patched : (k : ℕ) (b : List ℕ) (d : ℤ) → Patchable i k b d → i.outside k (i.patched k b d) ≡ i.outside k b
  outside_patched k b d p =
      s.outside_is k (i.patched k b d) ∙ ap (clearing (f k)) (s.patched_is k b d)
      ∙ clearing-patching e (f k) b d (s.fits k p.kind) ∙ sym (s.outside_is k b)

  pub field_only : (k : ℕ) (b c : List ℕ) → OfKind i k b → OfKind i k c → Octets b → Octets c → i.outside k b ≡ i.outside k c → i.reads k b ≡ i.reads k c → b ≡ c
  field_only k b c p q x y o r =
      determined e (f k) b c (s.fits k p.kind) (p.long ∙ sym (s.wide k p.kind)) (q.long ∙ sym (s.wide k p.kind)) x y
      (sym (s.outside_is k b) ∙ o ∙ s.outside_is k c) (sym (s.reads_is k b) ∙ r ∙ s.reads_is k c)

  -- a set that tries some kinds in turn finds each patched branch, if its kind is tried and no other takes the code
  -- for a branch
  module _ (ks : List ℕ)
      (finds : (code : List ℕ) (at : ℕ) (j : Jump) → branch_among i.size i.role i.reads ks (drop at code) ≡ Some j → i.find code at ≡ Some j)
      (ignores : (k : ℕ) (b c : List ℕ) → OfKind i k b → OfKind i k c → i.outside k b ≡ i.outside k c → i.role k b ≡ i.role k c)
      (tried : (k : ℕ) (b : List ℕ) → OfKind i k b → is_some (i.role k b) ≡ true → T (holds k ks))
      (alone : (k j : ℕ) (b after : List ℕ) → OfKind i k b → is_some (i.role k b) ≡ true → is_some (role_at (i.size j) (i.role j) (b ++ after)) ≡ true → j ≡ k) where
    pub finds_branch : (k : ℕ) (b : List ℕ) (d : ℤ) (before after : List ℕ) (r : Role) → Patchable i k b d → i.role k b ≡ Some r
        → i.find (before ++ (i.patched k b d ++ after)) (length before) ≡ Some (Branch r (i.size k) d)
    finds_branch k b d before after r p t =
        let q = i.patched k b d in
        let long = patched_long k b d p in
        let of-b : OfKind i k b = record { kind = p.kind; long = p.long } in
        let of-q : OfKind i k q = record { kind = p.kind; long = long } in
        let is : i.role k q ≡ Some r = ignores k q b of-q of-b (outside_patched k b d p) ∙ t in
        finds (before ++ (q ++ after)) (length before) _
        (found i.size i.role i.reads k ks q before after r (tried k b of-b (ap is_some t)) long is (λ j h. alone k j q after of-q (ap is_some is) h))
        ∙ ap (λ (x : ℤ). Some (Branch r (i.size k) x)) (reads_patched k b d p)
