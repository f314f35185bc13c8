-- The turns of the search and its ends, by the lemmas of Seeking over one turn.
use Rattle.std.proofs.Common.{◌≡◌, ◌+◌, ◌-◌, ◌∙◌, None, Some, arith, drop, length-drop, rules, suc, sym}
use Rattle.fields.specs.Read.{read_field}
use Rattle.show.proofs.Seeking.{Fronted, far, found, fronted, passed, rest_of, stopped}
use Rattle.show.specs.Seeking.{front_of}
use Rattle.show.proofs.seek.seek.Goals as goal
use Rattle.show.proofs.seek.seek.Goals.{In_ok-front}

pub returns-then-number : goal.returns-then-number
returns-then-number c = far c.args.log.bytes.now c.args.number c.if-number.true

-- what stands at the place, where a field does
front : (c : In_ok-front) → front_of c.loop-passed.mallocs (read_field (drop c.loop-passed.at c.args.log.bytes.now)) ≡ Some c.in_ok-front.front
front c = rw (rest_of c.args.log.bytes.now c.loop-passed.at) at (sym c.read_front.ensures ∙ c.in_ok-front.was)

size : (c : In_ok-front) → Fronted (drop c.loop-passed.at c.args.log.bytes.now) c.in_ok-front.front
size c = fronted (drop c.loop-passed.at c.args.log.bytes.now) c.loop-passed.mallocs c.in_ok-front.front (front c)

pub returns-in_err-front : goal.returns-in_err-front
returns-in_err-front c =
    let h = c.loop-passed in
    let log = c.args.log.bytes.now in
    let why : c.from_residual.result ≡ None = search rules in
    let none = rw (rest_of log h.at) at (sym c.read_front.ensures ∙ c.in_err-front.was) in
    let more : 4096 - h._passed ≡ suc (4095 - h._passed) = omega arith in
    why ∙ stopped (4095 - h._passed) h.mallocs log h.at _ (c.args.number - h._passed) _ more h.invariant.whole none

pub overflow_add-at : goal.overflow_add-at
overflow_add-at c =
    let log = c.args.log.bytes.now in
    omega (arith, (size (goal.at.overflow_add-at c).In_ok-front).fits, length-drop c.loop-passed.at log)

pub loop-passed-preserved : goal.loop-passed-preserved
loop-passed-preserved c =
    let h = c.loop-passed in
    let log = c.args.log.bytes.now in
    let i = (goal.at.loop-passed-preserved c).In_ok-front in
    let more : 4096 - h._passed ≡ suc (4096 - (h._passed + 1)) = omega arith in
    let left : c.args.number - h._passed ≡ suc (c.args.number - (h._passed + 1)) = omega arith in
    record {
      within = omega (arith, (size i).fits, length-drop h.at log);
      room = (size i).room;
      whole = passed (4096 - (h._passed + 1)) h.mallocs log h.at _ (c.args.number - h._passed) _ more h.invariant.whole c.in_ok-front.front (front i) _ left;
    }

pub returns-in_err-front-2 : goal.returns-in_err-front-2
returns-in_err-front-2 c =
    let h = c.loop-passed in
    let log = c.args.log.bytes.now in
    let why : c.from_residual-in_err-front-2.result ≡ None = search rules in
    let none = rw (rest_of log h.at) at (sym c.read_front-2.ensures ∙ c.in_err-front-2.was) in
    let more : 4096 - h._passed ≡ suc (4095 - h._passed) = omega arith in
    why ∙ stopped (4095 - h._passed) h.mallocs log h.at _ (c.args.number - h._passed) _ more h.invariant.whole none

pub returns : goal.returns
returns c =
    let h = c.loop-passed in
    let log = c.args.log.bytes.now in
    let some = rw (rest_of log h.at) at (sym c.read_front-2.ensures ∙ c.in_ok-front-2.was) in
    let more : 4096 - h._passed ≡ suc (4095 - h._passed) = omega arith in
    let none : c.args.number - h._passed ≡ 0 = omega arith in
    found (4095 - h._passed) h.mallocs log h.at _ (c.args.number - h._passed) _ more h.invariant.whole c.in_ok-front-2.front some none
