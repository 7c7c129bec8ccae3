-- Who replays calls holds the token of the open region, if one is open.
use Rattle.std.specs.Prelude.{◌≡◌, true, length, is_some, Some, None, Option}
use Rattle.std.proofs.Props.{props}
use Rattle.table_calls.specs.declared.tokens.OpenPatchRegion.{OpenPatchRegion}
use Rattle.model.specs.State.{State}

abbrev pub Held : Option OpenPatchRegion → State → Type 0
Held None s = s.opened ≡ None
Held (Some token) s = (is_some s.opened ≡ true) × (token.number ≡ length s.regions)

-- it is held in one way
pub Held-prop : (token : Option OpenPatchRegion) (s : State) → IsProp (Held token s)
Held-prop None s = Prim.hlevel props
Held-prop (Some token) s = Prim.hlevel props
