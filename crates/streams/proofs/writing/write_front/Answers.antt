-- One more call either is the last, or moves as many bytes as it says.
use Rattle.std.proofs.Common.{ℕ, List, ◌∷◌, ◌++◌, Ok, Err, not, take, refl, sym, ap, ◌∙◌, arith}
use Rattle.std.proofs.KnownBytes.{Appends-kept, Appends-trans}
use Rattle.std.proofs.Math.Seq.{take-add}
use Rattle.std.proofs.lemmas.List.{take_rest}
use mathlib.Core.Logic.{inl}
use Rattle.streams.proofs.Bounds.{goes_on, reaches}
use Rattle.streams.proofs.writing.write_front.Goals as goal
use Rattle.streams.proofs.writing.write_front.Goals.{in-Ok, in-Err}

pub returns-in-Ok-eq0-clause-writes_by : goal.returns-in-Ok-eq0-clause-writes_by
returns-in-Ok-eq0-clause-writes_by g c =
    let (got, moved, on, many) = c.loop.invariant.went_on in
    (Ok 0 ∷ got, inl (refl, on))

pub returns-in-Err-2-clause-writes_by : goal.returns-in-Err-2-clause-writes_by
returns-in-Err-2-clause-writes_by g c =
    let (got, moved, on, many) = c.loop.invariant.went_on in
    (Err c.in-Err.error ∷ got, inl (ap not (sym c.is_interrupted.ensures ∙ c.if-is_interrupted.false), on))

pub loop-preserved : goal.loop-preserved
loop-preserved g c =
    let inv = c.loop.invariant in
    let (got, moved, on, many) = inv.went_on in
    let bytes : List ℕ = c.args.bytes.now in
    let at = c.loop.done in
    elim c.match-write.branch [
      | in-Ok w ↦
          let n = w.in-Ok.count in
          let few = w.in-Ok.ensures.bound in
          let fits = reaches at n bytes inv.inside few in
          let appends = Appends-trans _ _ _ _ _ inv.written w.in-Ok.ensures.bytes in
          let joined = take-add at n bytes ∙ ap (λ (l : List ℕ). take at bytes ++ take n l) (sym (take_rest bytes at)) in
          rw w.done-is record {
            counted = omega arith;
            inside = fits;
            went_on = (Ok n ∷ got, omega (arith, moved), (goes_on n w.in-Ok.count-test.1, on), omega (arith, many));
            written = rw joined appends;
          }
      | in-Err w ↦
          let signal = ap not (sym w.is_interrupted.ensures ∙ w.if-is_interrupted.true) in
          rw w.done-is record {
            counted = omega arith;
            inside = inv.inside;
            went_on = (Err w.in-Err.error ∷ got, omega (arith, moved), (signal, on), omega (arith, many));
            written = Appends-kept _ _ _ _ inv.written w.in-Err.ensures.bytes;
          }
    ]
