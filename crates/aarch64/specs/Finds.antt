-- Each patched branch and each veneer is found where it begins.
use Rattle.std.specs.Prelude.{◌≡◌, ℕ, ◌<◌, true, T, List, [], ◌∷◌, ◌++◌, length, take, drop, ℤ, pos, ◌+ℤ◌, Some, Option, is_some, nat_le, refl}
use Rattle.std.proofs.Common.{sym, ap, subst, ◌∙◌, arith, of_z}
use Rattle.std.proofs.Math.Seq.{drop-append_seam}
use Rattle.std.specs.Int.{w32}
use Rattle.std.proofs.lemmas.Bool.Decides.{nat_tests}
use Rattle.std.proofs.lemmas.Bool.{false≢true}
use Rattle.std.specs.Option.{option_or}
use Rattle.bits.specs.Fields.{get}
use Rattle.bits.specs.Formats.{reading, rewriting}
use Rattle.bits.specs.Words.{word, to_bytes}
use Rattle.isa.specs.declared.jumps.Jump.{Jump}
use Rattle.isa.specs.declared.jumps.Jump.TheVariants.{Branch, Veneer}
use Rattle.isa.specs.declared.jumps.Role.{Role}
use Rattle.isa.specs.declared.jumps.Role.TheVariants.{Unconditional}
use Rattle.isa.specs.Isa.{Patchable, bytes_at, patched_at}
use Rattle.isa.specs.Laws.{Leads}
use Rattle.isa.proofs.Finding.{holds, one_size, jump_leads}
use Rattle.isa.proofs.Formatted.{reads_patched, finds_branch as formatted_branch}
use Rattle.aarch64.specs.Fields.{format}
use Rattle.aarch64.specs.Meaning.{aarch64, jump_at_head, long_jump, long_veneer, short_veneer}
use Rattle.aarch64.specs.KindTables.{below_6, formatted}
use Rattle.aarch64.specs.RoleLaws.{role_outside, role_once}

-- only the first three kinds have branches
branch_kinds : (k : ℕ) → k < 6 → (b : List ℕ) → is_some (aarch64.role k b) ≡ true → T (holds k (0 ∷ 1 ∷ 2 ∷ []))
branch_kinds = below_6 (λ k. (b : List ℕ) → is_some (aarch64.role k b) ≡ true → T (holds k (0 ∷ 1 ∷ 2 ∷ [])))
    (λ b e. tt) (λ b e. tt) (λ b e. tt) (λ b e. absurd (false≢true e)) (λ b e. absurd (false≢true e)) (λ b e. absurd (false≢true e))

pub finds_branch : (k : ℕ) (b : List ℕ) (d : ℤ) (before after : List ℕ) (r : Role) → Patchable aarch64 k b d → aarch64.role k b ≡ Some r
    → aarch64.find (before ++ (aarch64.patched k b d ++ after)) (length before) ≡ Some (Branch r 4 d)
finds_branch =
    formatted_branch formatted (0 ∷ 1 ∷ 2 ∷ []) (λ code at j e. ap (λ (o : Option Jump). option_or o (long_jump (drop at code))) e) (λ k b c p q. role_outside k p.kind b c) (λ k b p. branch_kinds k p.kind b)
    (λ k j b after p t h. role_once j k b (one_size aarch64 4 j b after p.long h) t)

jump_word : aarch64.role 2 short_veneer.code ≡ Some Unconditional
unfolding get word
jump_word = refl

-- the short veneer is a jump
finds_short : (d : ℤ) (before after : List ℕ) → Patchable aarch64 2 (bytes_at aarch64 2 short_veneer.code 0) d
    → Leads (aarch64.find (before ++ (patched_at aarch64 2 short_veneer.code 0 d ++ after)) (length before)) (pos 0 +ℤ d)
finds_short d before after p =
    jump_leads aarch64 2 short_veneer.code 4 d before after (finds_branch 2 short_veneer.code d before after Unconditional p jump_word)

abbrev long_head : List ℕ
long_head = take 16 long_veneer.code

-- the four instructions of a long veneer, and a word after them
long_found : (w : ℕ) (after : List ℕ) → jump_at_head (long_head ++ (to_bytes 4 w ++ after)) ≡ Some (Veneer (pos 16 +ℤ reading (format 5) (to_bytes 4 w)))
unfolding get word
long_found w after =
    let code = long_head ++ (to_bytes 4 w ++ after) in
    let a : nat_le 4 (length code) ≡ true = grind (arith, nat_tests) in
    let b : nat_le 20 (length code) ≡ true = grind (arith, nat_tests) in
    rw (a, b)

-- the long veneer leads on by its word of data
finds_long : (d : ℤ) (before after : List ℕ) → Patchable aarch64 5 (bytes_at aarch64 5 long_veneer.code 16) d
    → aarch64.find (before ++ (patched_at aarch64 5 long_veneer.code 16 d ++ after)) (length before) ≡ Some (Veneer (pos 16 +ℤ d))
finds_long d before after p =
    ap jump_at_head (drop-append_seam before (patched_at aarch64 5 long_veneer.code 16 d ++ after))
    ∙ shape
    ∙ ap (λ (z : ℤ). Some (Veneer (pos 16 +ℤ z))) (reads_patched formatted 5 (to_bytes 4 0) d p)
  where
    shape : jump_at_head (patched_at aarch64 5 long_veneer.code 16 d ++ after) ≡ Some (Veneer (pos 16 +ℤ aarch64.reads 5 (aarch64.patched 5 (to_bytes 4 0) d)))
    shape = long_found (rewriting (format 5) (word 4 (to_bytes 4 0)) (of_z w32 d)) after

pub finds_veneer : (k : ℕ) → k < 6 → aarch64.supports k ≡ true → (d : ℤ) (before after : List ℕ)
    → Patchable aarch64 (aarch64.veneer k).own (bytes_at aarch64 (aarch64.veneer k).own (aarch64.veneer k).code (aarch64.veneer k).place) d
    → Leads (aarch64.find (before ++ (patched_at aarch64 (aarch64.veneer k).own (aarch64.veneer k).code (aarch64.veneer k).place d ++ after)) (length before)) (pos (aarch64.veneer k).place +ℤ d)
finds_veneer = below_6 (λ k. aarch64.supports k ≡ true → (d : ℤ) (before after : List ℕ)
    → Patchable aarch64 (aarch64.veneer k).own (bytes_at aarch64 (aarch64.veneer k).own (aarch64.veneer k).code (aarch64.veneer k).place) d
    → Leads (aarch64.find (before ++ (patched_at aarch64 (aarch64.veneer k).own (aarch64.veneer k).code (aarch64.veneer k).place d ++ after)) (length before)) (pos (aarch64.veneer k).place +ℤ d))
    (λ s. finds_short) (λ s. finds_short)
    (λ s d before after p. subst (λ (f : Option Jump). Leads f (pos 16 +ℤ d)) (sym (finds_long d before after p)) refl)
    (λ s. absurd (false≢true s)) (λ s. absurd (false≢true s)) (λ s. absurd (false≢true s))
