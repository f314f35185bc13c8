-- What the system answered determines what was read: two results that the contract of `read_into` allows, by the same calls, are equal;
-- but where all calls were made, whose error is no answer, the errors may differ in their words.
-- Assumes nothing.
use Prim.Native.Nat.{ℕ, ◌≤◌, ◌<◌}
use lib.ListN.{length, take}
use lib.Seq.{length-take-le}
use mathlib.Core.Bool.{true}
use mathlib.Core.List.{List, [], ◌∷◌}
use mathlib.Core.Logic.{inl, inr}
use mathlib.Core.Path.{◌≡◌, refl, sym, ap, ◌∙◌}
use native.Mathlib.Omega.{arith}
use Rattle.std.specs.Prelude.{Ok, Err, not}
use Rattle.std.specs.declared.io.Error.{Error}
use Rattle.streams.specs.Answers.{AllGoOn, Answer, calls, stops}
use Rattle.streams.specs.Reading.{Call, Last, LastFailed, StopsBy, answers, brought, is_full, is_read}
use Rattle.streams.specs.declared.reading.Stop.{Stop}
use Rattle.streams.specs.declared.reading.Stop.TheVariants.{Full, Ended, Broken}

-- the bytes and how many there are
pub same_bytes : (made : List Call) (xs ys : List ℕ) (m n : ℕ) → m ≤ length xs → n ≤ length ys → take m xs ≡ brought made → take n ys ≡ brought made → (m ≡ n) × (take m xs ≡ take n ys)
same_bytes made xs ys m n inside inside' p q = (sym (length-take-le m xs inside) ∙ ap length (p ∙ sym q) ∙ length-take-le n ys inside', p ∙ sym q)

-- after an answer that stops nothing went on
no_more : (a : Answer) (made : List Call) → stops a ≡ true → Last a made → AllGoOn (answers made) → ⊥
no_more a [] stop last on = absurd last
no_more a (call ∷ earlier) stop last on =
    let same = last.0 in
    let goes = on.0 in
    let bad = sym (ap stops same ∙ stop) ∙ goes in
    cc

not_failed : (e : Error) (made : List Call) → LastFailed e made → AllGoOn (answers made) → ⊥
not_failed e made failed on = no_more (Err e) made (ap not failed.0) failed.1 on

-- one call has one answer
one_answer : (a b : Answer) (made : List Call) → Last a made → Last b made → a ≡ b
one_answer a b [] last other = absurd last
one_answer a b (call ∷ earlier) last other = sym last.0 ∙ other.0

no_both : (e : Error) (made : List Call) → Last (Ok 0) made → Last (Err e) made → ⊥
no_both e made last other = let same = one_answer (Ok 0) (Err e) made last other in cc

-- the same kind of stop; and the same error, but where all calls were made
abbrev Same : List Call → Stop → Stop → Type 0
Same made s t = (is_full s ≡ is_full t) × (is_read s ≡ is_read t) × (length made < calls → s ≡ t)

same : (made : List Call) (s : Stop) → Same made s s
same made s = (refl, refl, λ _. refl)

full_broken : (room : ℕ) (e : Error) (made : List Call) → StopsBy Full room made → StopsBy (Broken e) room made → ⊥
full_broken room e made full (inl failed) = not_failed e made failed full.0
full_broken room e made full (inr all) = omega (arith, full.2, all.1)

ended_broken : (room : ℕ) (e : Error) (made : List Call) → StopsBy Ended room made → StopsBy (Broken e) room made → ⊥
ended_broken room e made ended (inl failed) = no_both e made ended failed.1
ended_broken room e made ended (inr all) = no_more (Ok 0) made refl ended all.0

broken_both : (room : ℕ) (e f : Error) (made : List Call) → StopsBy (Broken e) room made → StopsBy (Broken f) room made → length made < calls → Broken e ≡ Broken f
broken_both room e f made (inl p) (inl q) few = let one = one_answer (Err e) (Err f) made p.1 q.1 in cc
broken_both room e f made (inl p) (inr q) few = absurd (omega (arith, few, q.1))
broken_both room e f made (inr p) q few = absurd (omega (arith, few, p.1))

pub one_stop : (room : ℕ) (made : List Call) (s t : Stop) → StopsBy s room made → StopsBy t room made → (is_full s ≡ is_full t) × (is_read s ≡ is_read t) × (length made < calls → s ≡ t)
one_stop room made Full Full p q = same made Full
one_stop room made Full Ended p q = absurd (no_more (Ok 0) made refl q p.0)
one_stop room made Full (Broken e) p q = absurd (full_broken room e made p q)
one_stop room made Ended Full p q = absurd (no_more (Ok 0) made refl p q.0)
one_stop room made Ended Ended p q = same made Ended
one_stop room made Ended (Broken e) p q = absurd (ended_broken room e made p q)
one_stop room made (Broken e) Full p q = absurd (full_broken room e made q p)
one_stop room made (Broken e) Ended p q = absurd (ended_broken room e made q p)
one_stop room made (Broken e) (Broken f) p q = (refl, refl, broken_both room e f made p q)
