-- What four words ask of a set. A text is its ASCII codes.
use Rattle.std.specs.Prelude.{◌≡◌, ℕ, ◌^◌, ◌<◌, List, Some, None, Ok, Err, vec_items, Result, FitsSigned}
use Rattle.std.specs.Int.{w64}
use Rattle.std.specs.Str.Parse.{IsNumeral, digits_value, without_leading_plus, without_leading_sign, signed_digits_value}
use Rattle.jump_report.specs.declared.request.Request.{Request}
use Rattle.jump_report.specs.declared.request.RequestError.{RequestError}
use Rattle.jump_report.specs.declared.request.RequestError.TheVariants.{OutOfMemory, NoSet, NoKind, NoBytes, NoDisplacement}
use Rattle.jump_report.specs.declared.text.HexError.{HexError}
use Rattle.jump_report.specs.declared.text.HexError.TheVariants.{OutOfMemory as HexMemory, NotHex}
use Rattle.jump_report.specs.Hex.{hex_bytes}
use Rattle.jump_report.specs.Sets.{set_named}

abbrev pub from_hex : HexError → RequestError
from_hex HexMemory = OutOfMemory
from_hex NotHex = NoBytes

-- a text is a decimal number of 32 bits, with a plus before it or none
abbrev pub IsKind : List ℕ → Type 0
IsKind text = IsNumeral 10 (without_leading_plus text) × (digits_value 10 (without_leading_plus text) < 2 ^ 32)

-- a text is a decimal number of 64 bits, with a sign before it or none
abbrev pub IsDisplacement : List ℕ → Type 0
IsDisplacement text = IsNumeral 10 (without_leading_sign text) × FitsSigned w64 (signed_digits_value 10 text)

-- the words that a request was read from
pub record Asked (set kind bytes displacement : List ℕ) (q : Request) : Type 0 where
  pub set_is : set_named set ≡ Some q.set
  pub kind_number : IsKind kind
  pub kind_is : q.kind ≡ digits_value 10 (without_leading_plus kind)
  pub bytes_are : hex_bytes bytes ≡ Some (vec_items q.bytes)
  pub displacement_number : IsDisplacement displacement
  pub displacement_is : q.displacement ≡ signed_digits_value 10 displacement

-- a request, or the first word that is wrong
abbrev pub Read : List ℕ → List ℕ → List ℕ → List ℕ → Result Request RequestError → Type 0
Read set kind bytes displacement (Ok q) = Asked set kind bytes displacement q
Read set kind bytes displacement (Err OutOfMemory) = Unit {0}
Read set kind bytes displacement (Err NoSet) = set_named set ≡ None
Read set kind bytes displacement (Err NoKind) = IsKind kind → ⊥
Read set kind bytes displacement (Err NoBytes) = hex_bytes bytes ≡ None
Read set kind bytes displacement (Err NoDisplacement) = IsDisplacement displacement → ⊥
