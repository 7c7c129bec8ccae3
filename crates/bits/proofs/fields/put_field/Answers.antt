use Rattle.std.proofs.Common.{ℕ, ◌^◌, ◌<◌, sym, subst}
use Rattle.bits.proofs.OneField.{put_code, put-fits}
use Rattle.bits.proofs.fields.put_field.Goals as goal

pub overflow_cast-result-3 : goal.overflow_cast-result-3
overflow_cast-result-3 c =
    let a = c.args in
    let f : a.code < 2 ^ 32 = c.ranges.code.fits in
    let e = put_code a.lo a.width a.code a.value c.requires.field_in f c.requires.value_fits in
    let p = put-fits 32 a.lo a.width a.code a.value c.requires.field_in f c.requires.value_fits in
    record { fits = subst (λ (n : ℕ). n < 2 ^ 32) (sym e) p }

pub returns : goal.returns
returns c =
    let a = c.args in
    put_code a.lo a.width a.code a.value c.requires.field_in c.ranges.code.fits c.requires.value_fits
