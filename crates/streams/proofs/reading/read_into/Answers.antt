-- One more call either is the last, or brings bytes that stand after those that were there.
use Rattle.std.proofs.Common.{ℕ, ◌-◌, ◌≤◌, ◌∷◌, Ok, Err, not, length, refl, sym, subst, ap, ◌∙◌, arith}
use mathlib.Core.Logic.{inl}
use borrow.Rule.Slice.PartMut.{same_len_mid, take_put}
use Rattle.std.proofs.KnownBytes.{Consumes-kept, Consumes-trans}
use Rattle.streams.proofs.Bounds.{goes_on, reaches}
use Rattle.streams.proofs.Growth.{grown, nothing_more, stopped, went_on}
use Rattle.streams.specs.Reading.{Call}
use Rattle.streams.specs.declared.reading.Stop.TheVariants.{Ended, Broken}
use Rattle.streams.proofs.reading.read_into.Goals as goal
use Rattle.streams.proofs.reading.read_into.Goals.{in-Ok, in-Err}

pub returns-in-Ok-eq0-clause-reads_by : goal.returns-in-Ok-eq0-clause-reads_by
returns-in-Ok-eq0-clause-reads_by g c =
    let inv = c.loop.invariant in
    let call : Call = record { answer = Ok 0; part = c.read.new.buf } in
    stopped c.loop.length (length c.loop.bytes - c.loop.length) c.loop.bytes call inv.went_on.0 inv.inside inv.went_on.1 inv.went_on.2 Ended refl (refl, inv.went_on.2)

pub returns-in-Err-2-clause-reads_by : goal.returns-in-Err-2-clause-reads_by
returns-in-Err-2-clause-reads_by g c =
    let inv = c.loop.invariant in
    let call : Call = record { answer = Err c.in-Err.error; part = c.read.new.buf } in
    let failed = sym c.is_interrupted.ensures ∙ c.if-is_interrupted.false in
    stopped c.loop.length (length c.loop.bytes - c.loop.length) c.loop.bytes call inv.went_on.0 inv.inside inv.went_on.1 inv.went_on.2 (Broken c.in-Err.error) refl (inl (failed, (refl, inv.went_on.2)))

pub loop-preserved : goal.loop-preserved
loop-preserved g c =
    let inv = c.loop.invariant in
    let part = length c.loop.bytes - c.loop.length in
    let lent = c.read.auto.buf in
    let size = same_len_mid c.loop.length part c.loop.bytes c.read.new.buf lent in
    let (made, log, on, many) = inv.went_on in
    elim c.match-read.branch [
      | in-Ok w ↦
          let n = w.in-Ok.count in
          let few = w.in-Ok.ensures.bound.0 in
          let call : Call = record { answer = Ok n; part = c.read.new.buf } in
          let brings = went_on c.loop.length part c.loop.bytes call made inv.inside log on n refl few in
          let fits = reaches c.loop.length n c.loop.bytes inv.inside (subst (λ (k : ℕ). n ≤ k) lent few) in
          let loses = Consumes-trans _ _ _ _ _ inv.lost w.in-Ok.ensures.bytes.0 in
          rw w.length-is record {
            counted = omega arith;
            inside = omega (arith, size, fits);
            went_on = (call ∷ made, brings, (goes_on n w.in-Ok.count-test.1, on), omega (arith, many));
            lost = rw (grown c.loop.length part n c.loop.bytes c.read.new.buf inv.inside few) loses;
          }
      | in-Err w ↦
          let call : Call = record { answer = Err w.in-Err.error; part = c.read.new.buf } in
          let signal = ap not (sym w.is_interrupted.ensures ∙ w.if-is_interrupted.true) in
          rw w.length-is record {
            counted = omega arith;
            inside = omega (arith, size, inv.inside);
            went_on = (call ∷ made, nothing_more c.loop.length part c.loop.bytes call made inv.inside log on refl, (signal, on), omega (arith, many));
            lost = rw (take_put c.loop.length part c.loop.bytes c.read.new.buf inv.inside) (Consumes-kept _ _ _ _ inv.lost w.in-Err.ensures.bytes);
          }
    ]
