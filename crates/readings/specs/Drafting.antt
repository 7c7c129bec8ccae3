-- The draft of a list of calls: it is fed with nothing but the calls and their answers.
use Rattle.std.specs.Prelude.{ℕ, cond, List, [], ◌∷◌, ◌++◌, length, Some, None, Option, ◌==◌}
use Rattle.isa.specs.declared.jumps.Role.{Role}
use Rattle.isa.specs.Isa.{Isa}
use Rattle.model.specs.Steps.{Call, GetLabel, BindLabel, PutData, AlignTo, UseLabelAtOffset, AddUncondBranch, AddCondBranch, DeferTrap, RegisterConstant, GetLabelForConstant, OptimizeBranches, StartPatchable, EndPatchable, EmitIsland, Finish, CurOffset, ResolveLabelOffset, IslandNeeded, Answer, Granted, Number, Closed, YesNo, Finished, Refused}
use Rattle.readings.specs.Draft.{Item, piece, use_of, label, branch, gap, Draft}

-- nothing yet
abbrev pub blank_draft : Draft
blank_draft = record { items = []; kept = [] }

-- items of which the last is what a call added
abbrev pub with_item : Draft → Item → Draft
with_item D x = record { items = D.items ++ x ∷ []; kept = D.kept }

-- a branch to the label, where bytes have a role
abbrev pub with_branch : Draft → ℕ → Option Role → Draft
with_branch D l None = D
with_branch D l (Some r) = with_item D (branch l r)

-- the label answered is that of a trap or a constant
abbrev pub with_kept : Draft → ℕ → Draft
with_kept D l = record { items = D.items; kept = l ∷ D.kept }

-- an item, if the call answered a number: made from that number
abbrev pub if_number : Answer → Draft → (ℕ → Draft) → Draft
if_number Granted D f = D
if_number (Number n) D f = f n
if_number (Closed r) D f = D
if_number (YesNo b) D f = D
if_number (Finished n) D f = D
if_number (Refused e) D f = D

-- an item, if the call was granted with nothing more to say
abbrev pub if_granted : Answer → Draft → Draft → Draft
if_granted Granted D E = E
if_granted (Number n) D E = D
if_granted (Closed r) D E = D
if_granted (YesNo b) D E = D
if_granted (Finished n) D E = D
if_granted (Refused e) D E = D

-- A granted put with bytes adds a piece, a use a piece with its label, a branch call a branch with its label and role, a bound label
-- itself, an alignment or an island a gap. A trap or constant asked for puts the label answered there. Other and refused calls add
-- nothing.
abbrev pub drafted : Isa → Draft → Call → Answer → Draft
drafted i D GetLabel a = D
drafted i D (BindLabel l skip) a = if_granted a D (with_item D (label l))
drafted i D (PutData trap bytes) a = if_number a D (λ q. cond (length bytes == 0) D (with_item D (piece q (length bytes))))
drafted i D (AlignTo n) a = if_granted a D (with_item D gap)
drafted i D (UseLabelAtOffset l k bytes) a = if_number a D (λ q. with_item D (use_of q (length bytes) k l))
drafted i D (AddUncondBranch l k bytes) a = if_number a D (λ q. with_branch D l (i.role k bytes))
drafted i D (AddCondBranch l k bytes inverted) a = if_number a D (λ q. with_branch D l (i.role k bytes))
drafted i D (DeferTrap trap) a = if_number a D (λ l. with_kept D l)
drafted i D (RegisterConstant size align) a = D
drafted i D (GetLabelForConstant n) a = if_number a D (λ l. with_kept D l)
drafted i D (OptimizeBranches skip) a = D
drafted i D StartPatchable a = D
drafted i D EndPatchable a = D
drafted i D (EmitIsland distance) a = if_granted a D (with_item D gap)
drafted i D (Finish force pool) a = D
drafted i D CurOffset a = D
drafted i D (ResolveLabelOffset l) a = D
drafted i D (IslandNeeded distance) a = D

-- the draft with what some calls say, of which each has its answer
abbrev pub draft_from : Isa → Draft → List Call → List Answer → Draft
draft_from i D [] answers = D
draft_from i D (c ∷ cs) [] = D
draft_from i D (c ∷ cs) (a ∷ more) = draft_from i (drafted i D c a) cs more

-- the draft of some calls and their answers, in order
abbrev pub draft_of : Isa → List Call → List Answer → Draft
draft_of i calls answers = draft_from i blank_draft calls answers
