-- Finding a branch at the head of some code: the kinds are tried in turn.
use Rattle.std.specs.Prelude.{ℕ, cond, List, [], ◌∷◌, length, take, ℤ, None, Option, option_map, nat_le}
use Rattle.std.specs.Option.{option_or}
use Rattle.isa.specs.declared.jumps.Jump.{Jump}
use Rattle.isa.specs.declared.jumps.Jump.TheVariants.{Branch}
use Rattle.isa.specs.declared.jumps.Role.{Role}

-- the role of the head of the code, as a use of a kind that has so many bytes
abbrev pub role_at : ℕ → (List ℕ → Option Role) → List ℕ → Option Role
role_at size role code = cond (nat_le size (length code)) (role (take size code)) None

-- the branch that the head of the code is, as such a use
abbrev pub branch_at : ℕ → (List ℕ → Option Role) → (List ℕ → ℤ) → List ℕ → Option Jump
branch_at size role reads code = option_map (λ r. Branch r size (reads (take size code))) (role_at size role code)

-- the branch of the first of some kinds that the head of the code is one of
abbrev pub branch_among : (ℕ → ℕ) → (ℕ → List ℕ → Option Role) → (ℕ → List ℕ → ℤ) → List ℕ → List ℕ → Option Jump
branch_among size role reads [] code = None
branch_among size role reads (k ∷ ks) code = option_or (branch_at (size k) (role k) (reads k) code) (branch_among size role reads ks code)
