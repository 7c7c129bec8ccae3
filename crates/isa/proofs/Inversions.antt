-- Turning conditionals round, for every set of words.
use Rattle.std.proofs.Common.{◌≡◌, ℕ, ◌+◌, ◌<◌, Bool, not, T, eqb, leb, List, ◌∷◌, length, Some, sym, ap, ◌∙◌, arith, lit<, leb→le}
use Rattle.bits.specs.declared.pieces.Piece.{Piece}
use Rattle.bits.specs.Fields.{get, piece, scatter, clear, laid}
use Rattle.bits.specs.Formats.{pieces}
use Rattle.bits.specs.Words.{word, to_bytes, Octets}
use Rattle.bits.proofs.LittleEndian.{word_fits, word-to_bytes, length-to_bytes, octets_to_bytes}
use Rattle.bits.proofs.OneField.{put-fits}
use Rattle.bits.proofs.Scattered.{and_left, and_right, scatter-fits}
use Rattle.bits.proofs.Senses.{word-flip, reading-flip, rest_flip, rest_same}
use Rattle.isa.specs.declared.jumps.Condition.{Condition}
use Rattle.isa.specs.declared.jumps.Role.TheVariants.{Conditional}
use Rattle.isa.specs.Words.{Encoding, reads, outside, role, turned, inverted, rest_word, rest}

-- What a set shows of a conditional's word: the sense is a bit apart from the field, stays where it is when it is
-- turned, and is all that turns.
pub record Turning (e : Encoding) (k w : ℕ) (c : Condition) (s : Bool) : Type 0 where
  pub field : List Piece
  pub top : ℕ
  pub format_is : e.format k ≡ pieces 4 field top
  pub apart : T (laid 32 (piece (e.sense w) 1 0 ∷ field))
  pub sense_is : eqb (get (e.sense w) 1 w) 1 ≡ s
  pub sense_turned : e.sense (turned e w) ≡ e.sense w
  pub role_turned : e.role k (turned e w) ≡ Some (Conditional c (not s))

-- and of all of them: those of one role have their sense in one place
pub record Conditionals (e : Encoding) : Type 0 where
  pub turning : (k w : ℕ) (c : Condition) (s : Bool) → k < e.kinds → e.role k w ≡ Some (Conditional c s) → Turning e k w c s
  pub one_place : (k v w : ℕ) (c : Condition) (s : Bool) → k < e.kinds → e.role k v ≡ Some (Conditional c s) → e.role k w ≡ Some (Conditional c s) → e.sense v ≡ e.sense w

module _ {e : Encoding} (t : Conditionals e) where
  pub inverted_long : (b : List ℕ) → length (inverted e b) ≡ 4
  inverted_long b = length-to_bytes 4 (turned e (word 4 b))

  pub inverted_octets : (b : List ℕ) → Octets (inverted e b)
  inverted_octets b = octets_to_bytes 4 (turned e (word 4 b))

  module _ (k : ℕ) (b : List ℕ) (c : Condition) (s : Bool) (h : k < e.kinds) (is : role e k b ≡ Some (Conditional c s)) where
    here : Turning e k (word 4 b) c s
    here = t.turning k (word 4 b) c s h is

    low : e.sense (word 4 b) < 32
    low = omega (arith, leb→le (e.sense (word 4 b) + 1) 32 (and_left _ _ here.apart))

    beside : T (clear (piece (e.sense (word 4 b)) 1 0) here.field)
    beside = and_left _ _ (and_right (leb (e.sense (word 4 b) + 1) 32) _ here.apart)

    lies : T (laid 32 here.field)
    lies = and_right (clear (piece (e.sense (word 4 b)) 1 0) here.field) _ (and_right (leb (e.sense (word 4 b) + 1) 32) _ here.apart)

    word_turned : word 4 (inverted e b) ≡ turned e (word 4 b)
    word_turned = word-flip 4 (e.sense (word 4 b)) b low

    pub inverted_role : role e k (inverted e b) ≡ Some (Conditional c (not s))
    inverted_role = ap (e.role k) word_turned ∙ here.role_turned

    pub inverted_reads : reads e k (inverted e b) ≡ reads e k b
    inverted_reads = rw here.format_is (reading-flip 4 (e.sense (word 4 b)) here.field here.top b low beside)

    rest_turned : rest_word e k (turned e (word 4 b)) ≡ rest_word e k (word 4 b)
    rest_turned = rw (here.format_is, here.sense_turned) (rest_flip 32 (e.sense (word 4 b)) here.field (word 4 b) here.apart low (word_fits 4 b))

    pub inverted_rest : rest e k (inverted e b) ≡ rest e k b
    inverted_rest = ap (λ (w : ℕ). to_bytes 4 (rest_word e k w)) word_turned ∙ ap (to_bytes 4) rest_turned

    rest_fits : rest_word e k (word 4 b) < 4294967296
    rest_fits =
        rw here.format_is (put-fits 32 (e.sense (word 4 b)) 1 (scatter here.field (word 4 b) 0) 0 (leb→le _ _ (and_left _ _ here.apart))
        (scatter-fits 32 here.field (word 4 b) 0 lies (word_fits 4 b)) (lit< tt))

  pub rest_outside : (k : ℕ) (b c : List ℕ) (x : Condition) (s : Bool) → k < e.kinds → role e k b ≡ Some (Conditional x s) → role e k c ≡ Some (Conditional x s)
      → rest e k b ≡ rest e k c → outside e k b ≡ outside e k c
  rest_outside k b c x s h f g r =
      let v = word 4 b in
      let w = word 4 c in
      let m = here k b x s h f in
      let n = here k c x s h g in
      let place : e.sense w ≡ e.sense v = sym (t.one_place k v w x s h f g) in
      let words : rest_word e k v ≡ rest_word e k w =
      sym (word-to_bytes 4 _ (rest_fits k b x s h f)) ∙ ap (word 4) r ∙ word-to_bytes 4 _ (rest_fits k c x s h g) in
      let senses : eqb (get (e.sense v) 1 v) 1 ≡ eqb (get (e.sense v) 1 w) 1 = m.sense_is ∙ sym (rw place at n.sense_is) in
      rw m.format_is (ap (to_bytes 4) (rest_same (e.sense v) m.field v w (beside k b x s h f) (rw (m.format_is, place) at words) senses))
