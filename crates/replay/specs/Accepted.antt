-- Which answers mean that a use was accepted.
use Rattle.std.specs.Prelude.{ℕ, Bool, true, false, List, count_by, Result}
use Rattle.std.specs.List.{zip}
use Rattle.model.specs.Steps as model
use Rattle.model.specs.declared.refusals.Refusal.{Refusal}
use Rattle.replay.specs.declared.calls.Call.{Call}
use Rattle.replay.specs.declared.calls.Reply.{Reply}
use Rattle.replay.specs.Calls.{answer_of, call_of}

-- an answered number is one use more
abbrev pub is_number : model.Answer → Bool
is_number (model.Number n) = true
is_number _ = false

abbrev pub is_accepted : model.Call → model.Answer → Bool
is_accepted (model.UseLabelAtOffset l k bytes) a = is_number a
is_accepted (model.AddUncondBranch l k bytes) a = is_number a
is_accepted (model.AddCondBranch l k bytes inverted) a = is_number a
is_accepted _ a = false

-- how many calls had a use accepted
abbrev pub accepted_among : List Call → List (Result Reply Refusal) → ℕ
accepted_among calls answers = count_by (λ (c, a). is_accepted (call_of c) (answer_of a)) (zip calls answers)
