-- Each patched branch and each veneer is found where it begins.
use Rattle.std.specs.Prelude.{◌≡◌, ℕ, ◌<◌, true, T, List, [], ◌∷◌, ◌++◌, length, ℤ, pos, ◌+ℤ◌, Some, is_some, refl}
use Rattle.bits.specs.Fields.{get}
use Rattle.bits.specs.Words.{word, to_bytes}
use Rattle.isa.specs.declared.jumps.Jump.TheVariants.{Branch}
use Rattle.isa.specs.declared.jumps.Role.{Role}
use Rattle.isa.specs.declared.jumps.Role.TheVariants.{Unconditional}
use Rattle.isa.specs.Isa.{Patchable, bytes_at, patched_at}
use Rattle.isa.specs.Laws.{Leads}
use Rattle.isa.proofs.Finding.{holds, one_size, jump_leads}
use Rattle.isa.proofs.Formatted.{finds_branch as formatted_branch}
use Rattle.riscv.specs.Meaning.{riscv}
use Rattle.riscv.specs.KindTables.{below_2, formatted}
use Rattle.riscv.specs.RoleLaws.{role_outside, role_once}

branch_kinds : (k : ℕ) → k < 2 → (b : List ℕ) → is_some (riscv.role k b) ≡ true → T (holds k (0 ∷ 1 ∷ []))
branch_kinds = below_2 (λ k. (b : List ℕ) → is_some (riscv.role k b) ≡ true → T (holds k (0 ∷ 1 ∷ [])))
    (λ b e. tt) (λ b e. tt)

pub finds_branch : (k : ℕ) (b : List ℕ) (d : ℤ) (before after : List ℕ) (r : Role) → Patchable riscv k b d → riscv.role k b ≡ Some r
    → riscv.find (before ++ (riscv.patched k b d ++ after)) (length before) ≡ Some (Branch r 4 d)
finds_branch =
    formatted_branch formatted (0 ∷ 1 ∷ []) (λ code at j e. e) (λ k b c p q. role_outside k p.kind b c) (λ k b p. branch_kinds k p.kind b)
    (λ k j b after p t h. role_once j k b (one_size riscv 4 j b after p.long h) t)

abbrev jump_code : List ℕ
jump_code = to_bytes 4 0x6f

jump_word : riscv.role 1 jump_code ≡ Some Unconditional
unfolding get word
jump_word = refl

-- the veneer is a jump
pub finds_veneer : (d : ℤ) (before after : List ℕ) → Patchable riscv 1 (bytes_at riscv 1 jump_code 0) d
    → Leads (riscv.find (before ++ (patched_at riscv 1 jump_code 0 d ++ after)) (length before)) (pos 0 +ℤ d)
finds_veneer d before after p = jump_leads riscv 1 jump_code 4 d before after (finds_branch 1 jump_code d before after Unconditional p jump_word)
