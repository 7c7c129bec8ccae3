-- What the laws of a set say of a report.
use Rattle.std.proofs.Common.{◌≡◌, ℕ, List, [], ℤ, IfSome, Some, None, Option, sym, refl, ap, ◌∙◌, subst, append-nil}
use Rattle.std.specs.Option.{option_map}
use Rattle.isa.specs.declared.jumps.Jump.{Jump}
use Rattle.isa.specs.declared.jumps.Jump.TheVariants.{Branch}
use Rattle.isa.specs.declared.jumps.Role.{Role}
use Rattle.isa.specs.declared.jumps.Role.TheVariants.{Unconditional, Conditional}
use Rattle.isa.specs.Isa.{Isa, Patchable}
use Rattle.isa.specs.Laws.{Lawful, OfKind}
use Rattle.jump_report.specs.declared.report.JumpReport.{JumpReport}
use Rattle.jump_report.specs.Report.{other_sense, Told, Turned, JumpSet}

module _ (i : Isa) (law : Lawful i) (k : ℕ) (b : List ℕ) (d : ℤ) (could : Patchable i k b d) where
  abbrev p : List ℕ
  p = i.patched k b d

  of_p : OfKind i k p
  of_p = record { kind = could.kind; long = law.patched_long k b d could }

  same_role : i.role k p ≡ i.role k b
  same_role = law.role_outside k p b of_p (record { kind = could.kind; long = could.long }) (law.outside_patched k b d could)

  finds_itself : (r : Role) → i.role k p ≡ Some r → i.find p 0 ≡ Some (Branch r (i.size k) d)
  finds_itself r e = ap (λ (q : List ℕ). i.find q 0) (sym (append-nil p)) ∙ law.finds_branch k b d [] [] r could (sym same_role ∙ e)

  found_told : (r : Option Role) (j : Option Jump) → r ≡ i.role k p → j ≡ i.find p 0 → IfSome r (λ x. j ≡ Some (Branch x (i.size k) d))
  found_told None j e h = tt
  found_told (Some r) j e h = h ∙ finds_itself r (sym e)

  turns : (r : Option Role) (v : List ℕ) → i.role k p ≡ r → Some v ≡ other_sense i k p r → Turned i k d r v
  turns None v e o = cc o
  turns (Some Unconditional) v e o = cc o
  turns (Some (Conditional c s)) v e o =
      let same : i.inverted k p ≡ v = cc in
      subst (Turned i k d (Some (Conditional c s))) same (record {
        role = law.inverted_role k p c s of_p e;
        reads = law.inverted_reads k p c s of_p e ∙ law.reads_patched k b d could;
      })

  all_turned : {V : Type 0} (items : V → List ℕ) (o : Option V) (r : Option Role) → r ≡ i.role k p → option_map items o ≡ other_sense i k p (i.role k p) → IfSome o (λ v. Turned i k d r (items v))
  all_turned items None r e h = tt
  all_turned items (Some v) r e h =
      subst (λ (x : Option Role). Turned i k d x (items v)) (sym e) (turns (i.role k p) (items v) refl h)

  pub jump_set : (r : JumpReport) → Told i k p r → JumpSet i k b d r
  jump_set r told = record {
    could = could;
    told = told;
    reads = told.reads ∙ law.reads_patched k b d could;
    role = told.role ∙ same_role;
    finds = found_told r.role r.found told.role told.found;
    inverted = all_turned _ r.inverted r.role told.role told.inverted;
  }
