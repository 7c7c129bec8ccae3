-- The laws of every format: what is read after a patch is the displacement, and the rest of the bytes stays.
use Rattle.std.proofs.Common.{◌≡◌, ℕ, ◌+◌, ◌-◌, ◌*◌, ◌%◌, ◌^◌, ◌<◌, ◌≤◌, T, eqb, leb, List, length, ℤ, pos, nat_abs, sym, refl, ap, ◌∙◌, subst, mod-eq_of_lt, zero-add, arith, eqb→eq, ltb→lt, leb→le, pow_pos, pow_mono, w32, of_z}
use Rattle.std.specs.Prelude.{IsTrue}
use Rattle.std.specs.List.{All}
use lib.Signed.{mag}
use lib.Pow.{mod-mod-pow}
use Rattle.std.proofs.lemmas.Nat.{mod_below}
use Rattle.bits.specs.declared.pieces.Piece.{Piece}
use Rattle.bits.specs.Fields.{get, WithinWord, piece, scatter, gather}
pub use Rattle.bits.specs.Formats.{first, good}
use Rattle.bits.specs.Words.{word, to_bytes, Octets, signed}
use Rattle.bits.specs.Formats.{Format, pieces, whole, width, reading, rewriting, patching, clearing}
use Rattle.bits.proofs.LittleEndian.{word_fits, word-to_bytes, length-to_bytes, octets_to_bytes, to_bytes-word, signed_low, signed_same, bits_whole}
use Rattle.bits.proofs.Scattered.{and_left, and_right, clear, laid, runs, gather-scatter, get-scatter, held_run, scatter-fits, gather-fits, scatter-gather, within_word}
use Rattle.bits.proofs.Outside.{scatter-scatter}

-- the bit of the sign
abbrev pub top : Format → ℕ
top (pieces n ps h) = h
top (whole n) = 8 * n - 1

-- what the test says of pieces, by name
record Sound (e n : ℕ) (ps : List Piece) (h : ℕ) : Type 0 where
  lies : T (laid (8 * n) ps)
  row : T (runs (first ps) ps (h + 1))
  from_low : first ps ≤ e
  multiple : e ≤ 32
  short : h < 32

sound : (e n : ℕ) (ps : List Piece) (h : ℕ) → T (good e (pieces n ps h)) → Sound e n ps h
sound e n ps h t =
    let t1 = and_right (leb n 4) _ (and_right (leb 1 n) _ t) in
    let t2 = and_right (laid (8 * n) ps) _ t1 in
    let t3 = and_right (runs (first ps) ps (h + 1)) _ t2 in
    let t4 = and_right (leb (first ps) e) _ t3 in
    record {
      lies = and_left _ _ t1;
      row = and_left _ _ t2;
      from_low = leb→le (first ps) e (and_left _ _ t3);
      multiple = leb→le e 32 (and_left _ _ t4);
      short = ltb→lt h 32 (and_right (leb e 32) _ t4);
    }

-- what code may do with the pieces of a word of four bytes
pub record Usable (ps : List Piece) (h : ℕ) : Type 0 where
  pub within : All WithinWord ps
  pub short : h < 32
  pub held : (x : ℕ) → gather ps x < 2 ^ (h + 1)
  pub fits : (x : ℕ) → gather ps x < 2 ^ 32

pub usable : (ps : List Piece) (h : ℕ) → IsTrue (good 32 (pieces 4 ps h)) → Usable ps h
usable ps h t =
    let s = sound 32 4 ps h (subst T (sym t) tt) in
    let l = s.short in
    let held = λ (x : ℕ). gather-fits ps (first ps) (h + 1) x s.row in
    let most : 2 ^ (h + 1) ≤ 2 ^ 32 = pow_mono {i = h + 1} {j = 32} (omega arith) in
    record { within = within_word ps (first ps) (h + 1) s.lies s.row (omega arith); short = l; held = held; fits = λ x. omega (arith, held x, most) }

-- a multiple of 2 ^ e is one of any smaller power
low_zero : (u a e : ℕ) → a ≤ e → u % 2 ^ e ≡ 0 → u % 2 ^ a ≡ 0
low_zero u a e le z =
    let j = e - a in
    let s : j + a ≡ e = omega arith in
    sym (mod-mod-pow u j a) ∙ ap (λ (n : ℕ). u % 2 ^ n % 2 ^ a) s ∙ ap (λ (n : ℕ). n % 2 ^ a) z
    ∙ mod-eq_of_lt (pow_pos a)

-- a patch gives as many bytes as the word has, and each is a byte
pub length-patching : (f : Format) (b : List ℕ) (d : ℤ) → length (patching f b d) ≡ width f
length-patching f b d = length-to_bytes (width f) (rewriting f (word (width f) b) (of_z w32 d))

pub octets_patching : (f : Format) (b : List ℕ) (d : ℤ) → Octets (patching f b d)
octets_patching f b d = octets_to_bytes (width f) (rewriting f (word (width f) b) (of_z w32 d))

-- bytes that a displacement is added to hold 0 at first
abbrev pub Fresh : Format → List ℕ → Type 0
Fresh (pieces n ps h) b = Unit {0}
Fresh (whole n) b = reading (whole n) b ≡ pos 0

-- the word after a patch
pub patching-word : (e n : ℕ) (ps : List Piece) (h : ℕ) (b : List ℕ) (d : ℤ) → T (good e (pieces n ps h))
    → word n (patching (pieces n ps h) b d) ≡ scatter ps (word n b) (of_z w32 d)
patching-word e n ps h b d t =
    word-to_bytes n (scatter ps (word n b) (of_z w32 d))
    (scatter-fits (8 * n) ps (word n b) (of_z w32 d) (sound e n ps h t).lies (word_fits n b))

-- a displacement that is added to four bytes of 0
added : (b : List ℕ) (d : ℤ) → mag d < 2 ^ 31 → Fresh (whole 4) b → reading (whole 4) (patching (whole 4) b d) ≡ d
unfolding signed
added b d m r =
    let u = of_z w32 d in
    let x : word 4 b ≡ 0 = signed_same 31 (word 4 b) 0 (word_fits 4 b) (pow_pos 32) r in
    let s : (word 4 b + u) % 2 ^ 32 ≡ u % 2 ^ 32 = rw (x, zero-add u) in
    ap (signed 31) (word-to_bytes 4 ((word 4 b + u) % 2 ^ 32) (mod_below (word 4 b + u) (2 ^ 32) (pow_pos 32)) ∙ s)
    ∙ signed_low 31 d (omega arith) m

-- what is read after a patch is the displacement
pub reading-patching : (e : ℕ) (f : Format) (b : List ℕ) (d : ℤ) → T (good e f) → mag d < 2 ^ top f
    → nat_abs d % 2 ^ e ≡ 0 → Fresh f b → reading f (patching f b d) ≡ d
reading-patching e (pieces n ps h) b d t m z _ =
    let s = sound e n ps h t in
    let u = of_z w32 d in
    let hl : h ≤ 31 = omega arith in
    let big : 2 ^ h ≤ 2 ^ 31 = pow_mono hl in
    let c = low_zero u (first ps) e s.from_low (bits_whole e d s.multiple (omega arith) z) in
    let run = held_run ps (first ps) (h + 1) u s.row in
    ap (λ (x : ℕ). signed h (gather ps x)) (patching-word e n ps h b d t)
    ∙ ap (signed h) (gather-scatter (8 * n) ps (word n b) u s.lies ∙ omega (arith, c, run))
    ∙ signed_low h d s.short m
reading-patching e (whole n) b d t m z r =
    subst (λ (k : ℕ). mag d < 2 ^ top (whole k) → Fresh (whole k) b → reading (whole k) (patching (whole k) b d) ≡ d)
    (sym (eqb→eq n 4 (and_left (eqb n 4) (leb e 32) t))) (added b d) m r

-- a patch changes nothing outside the field
pub clearing-patching : (e : ℕ) (f : Format) (b : List ℕ) (d : ℤ) → T (good e f)
    → clearing f (patching f b d) ≡ clearing f b
clearing-patching e (pieces n ps h) b d t =
    ap (λ (x : ℕ). to_bytes n (scatter ps x 0)) (patching-word e n ps h b d t)
    ∙ ap (to_bytes n) (scatter-scatter (8 * n) ps (word n b) (of_z w32 d) 0 (sound e n ps h t).lies (word_fits n b))
clearing-patching e (whole n) b d t = refl

-- cleared bytes that are equal hold equal cleared words
cleared : (e n : ℕ) (ps : List Piece) (h : ℕ) (b c : List ℕ) → T (good e (pieces n ps h))
    → clearing (pieces n ps h) b ≡ clearing (pieces n ps h) c → scatter ps (word n b) 0 ≡ scatter ps (word n c) 0
cleared e n ps h b c t same =
    let held : (x : ℕ) → x < 2 ^ (8 * n) → word n (to_bytes n (scatter ps x 0)) ≡ scatter ps x 0 =
    λ x xl. word-to_bytes n (scatter ps x 0) (scatter-fits (8 * n) ps x 0 (sound e n ps h t).lies xl) in
    sym (held (word n b) (word_fits n b)) ∙ ap (word n) same ∙ held (word n c) (word_fits n c)

-- bytes that are equal but for the field have the same bits apart from it
pub same_outside : (e n : ℕ) (ps : List Piece) (h : ℕ) (b c : List ℕ) → T (good e (pieces n ps h))
    → clearing (pieces n ps h) b ≡ clearing (pieces n ps h) c
    → (a w : ℕ) → T (clear (piece a w 0) ps) → get a w (word n b) ≡ get a w (word n c)
same_outside e n ps h b c t same a w k =
    sym (get-scatter (piece a w 0) ps (word n b) 0 k) ∙ ap (get a w) (cleared e n ps h b c t same)
    ∙ get-scatter (piece a w 0) ps (word n c) 0 k

-- bytes that hold equal words are equal
same_bytes : (n : ℕ) (b c : List ℕ) → length b ≡ n → length c ≡ n → Octets b → Octets c → word n b ≡ word n c → b ≡ c
same_bytes n b c lb lc ob oc e = sym (to_bytes-word n b lb ob) ∙ ap (to_bytes n) e ∙ to_bytes-word n c lc oc

-- what is read and what is outside the field make up the bytes
pub determined : (e : ℕ) (f : Format) (b c : List ℕ) → T (good e f) → length b ≡ width f → length c ≡ width f
    → Octets b → Octets c → clearing f b ≡ clearing f c → reading f b ≡ reading f c → b ≡ c
determined e (pieces n ps h) b c t lb lc ob oc same read =
    let s = sound e n ps h t in
    let fits : (x : ℕ) → gather ps x < 2 ^ (h + 1) = λ x. gather-fits ps (first ps) (h + 1) x s.row in
    let g = signed_same h (gather ps (word n b)) (gather ps (word n c)) (fits (word n b)) (fits (word n c)) read in
    let o = cleared e n ps h b c t same in
    let back : (x : ℕ) → x < 2 ^ (8 * n) → scatter ps (scatter ps x 0) (gather ps x) ≡ x =
    λ x xl. scatter-scatter (8 * n) ps x 0 (gather ps x) s.lies xl
    ∙ scatter-gather ps (first ps) (h + 1) x s.row in
    same_bytes n b c lb lc ob oc
    (sym (back (word n b) (word_fits n b)) ∙ rw (o, g) (back (word n c) (word_fits n c)))
determined e (whole n) b c t lb lc ob oc same read =
    let n4 = eqb→eq n 4 (and_left (eqb n 4) (leb e 32) t) in
    let p : 8 * n - 1 + 1 ≡ 8 * n = omega arith in
    same_bytes n b c lb lc ob oc
    (signed_same (8 * n - 1) (word n b) (word n c) (rw p (word_fits n b)) (rw p (word_fits n c)) read)
