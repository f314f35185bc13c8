use Rattle.std.proofs.Common.{arith, true}
use Rattle.fields.proofs.Digits.{four_put, none_put, one_put, put_next, two_put}
use Rattle.fields.specs.Rows.{is_present, width_if, widths_of}
use Rattle.fields.proofs.writer.put_field.Goals as goal

pub returns : goal.returns
unfolding widths_of
returns c =
    let f = c.args.field in
    let r = c.args.row in
    let tag = put_next _ _ _ _ _ _ _ _ 1 f.tag (none_put c.args.out.now) c.put-length_at.ensures.place c.put-length_at.ensures.stored (rw c.to_le_bytes.ensures (one_put true f.tag (omega arith))) in
    let size = put_next _ _ _ _ _ _ _ _ 2 c.args.bytes tag c.put-thread_at.ensures.place c.put-thread_at.ensures.stored (rw (c.to_le_bytes-2.ensures, c.from.ensures) (two_put true c.args.bytes)) in
    let thread = put_next _ _ _ _ _ _ _ _ 1 f.thread size c.put-first_at.ensures.place c.put-first_at.ensures.stored (rw c.to_le_bytes-3.ensures (one_put true f.thread (omega arith))) in
    let first = put_next _ _ _ _ _ _ _ _ (width_if (is_present r.0) 1) f.first thread (rw c.is_present.ensures at c.put-second_at.ensures.place) c.put-second_at.ensures.stored (rw (c.is_present.ensures, c.to_le_bytes-4.ensures) (one_put (is_present r.0) f.first (omega arith))) in
    let second = put_next _ _ _ _ _ _ _ _ (width_if (is_present r.1) 1) f.second first (rw c.is_present-2.ensures at c.put-third_at.ensures.place) c.put-third_at.ensures.stored (rw (c.is_present-2.ensures, c.to_le_bytes-5.ensures) (one_put (is_present r.1) f.second (omega arith))) in
    let third = put_next _ _ _ _ _ _ _ _ (width_if (is_present r.2) 1) f.third second (rw c.is_present-3.ensures at c.put-cell_at.ensures.place) c.put-cell_at.ensures.stored (rw (c.is_present-3.ensures, c.to_le_bytes-6.ensures) (one_put (is_present r.2) f.third (omega arith))) in
    let cell = put_next _ _ _ _ _ _ _ _ (width_if r.3 2) f.cell.0 third c.put-number_at.ensures.place c.put-number_at.ensures.stored (rw c.to_le_bytes-7.ensures (two_put r.3 f.cell.0)) in
    let number = put_next _ _ _ _ _ _ _ _ (width_if r.4 4) f.number cell c.put.ensures.place c.put.ensures.stored (rw c.to_le_bytes-8.ensures (four_put r.4 f.number)) in
    number.all
