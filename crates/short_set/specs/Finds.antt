-- Each patched branch and each veneer is found where it begins.
use Rattle.std.specs.Prelude.{◌≡◌, ℕ, ◌+◌, ◌<◌, true, T, List, [], ◌∷◌, ◌++◌, length, ℤ, pos, ◌+ℤ◌, Some, is_some, refl}
use Rattle.std.proofs.lemmas.Bool.{false≢true}
use Rattle.bits.specs.Fields.{get}
use Rattle.bits.specs.Words.{word, to_bytes}
use Rattle.isa.specs.declared.jumps.Jump.TheVariants.{Branch}
use Rattle.isa.specs.declared.jumps.Role.{Role}
use Rattle.isa.specs.declared.jumps.Role.TheVariants.{Unconditional}
use Rattle.isa.specs.Isa.{Patchable, bytes_at, patched_at}
use Rattle.isa.specs.Laws.{Leads}
use Rattle.isa.proofs.Finding.{holds, one_size, jump_leads}
use Rattle.isa.proofs.Formatted.{finds_branch as formatted_branch}
use Rattle.short_set.specs.Meaning.{short}
use Rattle.short_set.specs.KindTables.{below_4, formatted, role_outside, role_once}

-- a load is no branch
branch_kinds : (k : ℕ) → k < 4 → (b : List ℕ) → is_some (short.role k b) ≡ true → T (holds k (0 ∷ 1 ∷ 2 ∷ []))
branch_kinds = below_4 (λ k. (b : List ℕ) → is_some (short.role k b) ≡ true → T (holds k (0 ∷ 1 ∷ 2 ∷ [])))
    (λ b e. tt) (λ b e. tt) (λ b e. tt) (λ b e. absurd (false≢true e))

pub finds_branch : (k : ℕ) (b : List ℕ) (d : ℤ) (before after : List ℕ) (r : Role) → Patchable short k b d → short.role k b ≡ Some r
    → short.find (before ++ (short.patched k b d ++ after)) (length before) ≡ Some (Branch r 4 d)
finds_branch =
    formatted_branch formatted (0 ∷ 1 ∷ 2 ∷ []) (λ code at j e. e) (λ k b c p q. role_outside k p.kind b c) (λ k b p. branch_kinds k p.kind b)
    (λ k j b after p t h. role_once j k b (one_size short 4 j b after p.long h) t)

jump_word : short.role 1 (to_bytes 4 2) ≡ Some Unconditional
unfolding get word
jump_word = refl

far_word : short.role 2 (to_bytes 4 3) ≡ Some Unconditional
unfolding get word
far_word = refl

leads : (k : ℕ) (b : List ℕ) (d : ℤ) (before after : List ℕ) → Patchable short k b d → short.role k b ≡ Some Unconditional
    → Leads (short.find (before ++ ((short.patched k b d ++ []) ++ after)) (length before)) (pos 0 +ℤ d)
leads k b d before after p j = jump_leads short k b 4 d before after (finds_branch k b d before after Unconditional p j)

-- the code of kind k's veneer, patched, leads to the target of its own use
abbrev FoundOn : ℕ → Type 0
FoundOn k = short.supports k ≡ true → (d : ℤ) (before after : List ℕ) → Patchable short (k + 1) (bytes_at short (k + 1) (to_bytes 4 (k + 2)) 0) d
    → Leads (short.find (before ++ (patched_at short (k + 1) (to_bytes 4 (k + 2)) 0 d ++ after)) (length before)) (pos 0 +ℤ d)

pub finds_veneer : (k : ℕ) → k < 4 → FoundOn k
finds_veneer = below_4 FoundOn
    (λ s d before after p. leads 1 (to_bytes 4 2) d before after p jump_word)
    (λ s d before after p. leads 2 (to_bytes 4 3) d before after p far_word)
    (λ s. absurd (false≢true s)) (λ s. absurd (false≢true s))
