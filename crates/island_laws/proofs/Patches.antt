-- Code with one use patched, and with more behind it.
use Rattle.std.proofs.Common.{◌≡◌, ℕ, ◌+◌, ◌≤◌, ◌⊎◌, List, ◌++◌, length, take, drop, ap, ◌∙◌, arith, length-append, length-take}
use lib.IntN.{sub_ℕ}
use lib.ListN.{length-replicate}
use Rattle.std.proofs.lemmas.List.{take_at, drop_at}
use Rattle.isa.specs.Isa.{Isa, Patchable, bytes_at}
use Rattle.isa.specs.Laws.{Lawful}
use Rattle.model.specs.declared.rows.Fixup.{Fixup}
use Rattle.model.specs.State.{State, cur_offset}
use Rattle.model.specs.Code.{padded_to, overwritten}
use Rattle.model.specs.Fates.{patch_fixup}
use Rattle.model.proofs.Overwritten.{length-overwritten, overwritten_apart}
use Rattle.model.proofs.Uses.{part_of_more}
use Rattle.island_laws.specs.Waiting.{use_bytes}
use Rattle.island_laws.proofs.Since.{Written}

-- code up to an offset
pub padded_long : (code : List ℕ) (at : ℕ) → length code ≤ at → length (padded_to code at) ≡ at
padded_long code at h = simp (length-append, length-replicate) (omega arith)

-- bytes that were written over a part
overwritten_there : (code bytes : List ℕ) (at n : ℕ) → length bytes ≡ n → at + n ≤ length code → take n (drop at (overwritten code at bytes)) ≡ bytes
overwritten_there code bytes at n e h = ap (take n) (drop_at (take at code) (bytes ++ drop (at + length bytes) code) at (simp length-take (omega arith))) ∙ take_at bytes (drop (at + length bytes) code) n e

module _ (i : Isa) (y : Lawful i) (s : State) (f : Fixup) (to : ℕ) (more : List ℕ) (within : f.offset + i.size f.kind ≤ cur_offset s) (p : Patchable i f.kind (use_bytes i s f) (sub_ℕ to f.offset)) where
  abbrev new_bytes : List ℕ
  new_bytes = i.patched f.kind (use_bytes i s f) (sub_ℕ to f.offset)

  new_long : length new_bytes ≡ i.size f.kind
  new_long = y.patched_long f.kind (use_bytes i s f) (sub_ℕ to f.offset) p

  overwrites : patch_fixup i s f to ≡ overwritten s.code f.offset new_bytes
  overwrites = rw new_long

  pub patch_long : length (patch_fixup i s f to) ≡ cur_offset s
  patch_long = ap length overwrites ∙ length-overwritten s.code new_bytes f.offset (omega (arith, new_long))

  pub patch_same : (from n : ℕ) → from + n ≤ cur_offset s → (from + n ≤ f.offset) ⊎ (f.offset + i.size f.kind ≤ from) → take n (drop from (patch_fixup i s f to ++ more)) ≡ take n (drop from s.code)
  patch_same from n h apart =
      let l = new_long in
      let e = patch_long in
      let a : (from + n ≤ f.offset) ⊎ (f.offset + length new_bytes ≤ from) = rw l apart in
      part_of_more (patch_fixup i s f to) more from n (omega arith) ∙ ap (λ (code : List ℕ). take n (drop from code)) overwrites ∙ overwritten_apart s.code new_bytes f.offset from n (omega arith) a

  there : bytes_at i f.kind (patch_fixup i s f to ++ more) f.offset ≡ new_bytes
  there =
      let e = patch_long in
      part_of_more (patch_fixup i s f to) more f.offset (i.size f.kind) (omega arith) ∙ ap (λ (code : List ℕ). take (i.size f.kind) (drop f.offset code)) overwrites ∙ overwritten_there s.code new_bytes f.offset (i.size f.kind) new_long within

  pub patch_written : (r : State) → r.code ≡ patch_fixup i s f to ++ more → Written i s r f to
  patch_written r e =
      let b : use_bytes i r f ≡ new_bytes = ap (λ (code : List ℕ). bytes_at i f.kind code f.offset) e ∙ there in
      record {
        reads = ap (i.reads f.kind) b ∙ y.reads_patched f.kind (use_bytes i s f) (sub_ℕ to f.offset) p;
        outside = ap (i.outside f.kind) b ∙ y.outside_patched f.kind (use_bytes i s f) (sub_ℕ to f.offset) p;
      }
