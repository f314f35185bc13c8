-- One more call, of which the part of the buffer xs from a place on was lent: what it brought stands after what was there.
-- Assumes nothing.
use Prim.Native.Nat.{ℕ, ◌+◌, ◌≤◌}
use borrow.Rule.Slice.PartMut.{put_mid, post_of, take_put}
use lib.ListN.{length, take}
use lib.Seq.{length-take-le, take-append-add, take-append-le}
use mathlib.Core.List.{List, ◌∷◌, ◌++◌, append-nil}
use mathlib.Core.Path.{◌≡◌, sym, ap, ◌∙◌}
use Rattle.streams.specs.Answers.{AllGoOn, moved_of}
use Rattle.streams.specs.Reading.{Call, ReadsBy, StopsBy, answers, brought}
use Rattle.streams.specs.declared.reading.Stop.{Stop}

pub grown : (at k n : ℕ) (xs ys : List ℕ) → at ≤ length xs → n ≤ length ys → take (at + n) (put_mid at k xs ys) ≡ take at xs ++ take n ys
grown at k n xs ys inside few =
    ap (λ (m : ℕ). take (m + n) (put_mid at k xs ys)) (sym (length-take-le at xs inside))
    ∙ take-append-add (take at xs) (ys ++ post_of at k xs) n
    ∙ ap (λ (l : List ℕ). take at xs ++ l) (take-append-le n ys (post_of at k xs) few)

module _ (at k : ℕ) (xs : List ℕ) (call : Call) (made : List Call) (inside : at ≤ length xs) (log : take at xs ≡ brought made) (on : AllGoOn (answers made)) where
  abbrev pub after : List ℕ
  after = put_mid at k xs call.part

  pub nothing_more : moved_of call.answer ≡ 0 → take at after ≡ brought (call ∷ made)
  nothing_more nothing = take_put at k xs call.part inside ∙ log ∙ sym (append-nil (brought made)) ∙ ap (λ (n : ℕ). brought made ++ take n call.part) (sym nothing)

  pub stopped : (why : Stop) → moved_of call.answer ≡ 0 → StopsBy why (length after) (call ∷ made) → ReadsBy after at why
  stopped why nothing stop = (call ∷ made, nothing_more nothing, stop)

  pub went_on : (n : ℕ) → n ≡ moved_of call.answer → n ≤ length call.part → take (at + n) after ≡ brought (call ∷ made)
  went_on n much few =
      grown at k n xs call.part inside few ∙ ap (λ (l : List ℕ). l ++ take n call.part) log ∙ ap (λ (m : ℕ). brought made ++ take m call.part) much
