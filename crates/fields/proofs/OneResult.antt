-- Two results that a public contract allows are equal: the contracts determine the answer and, of the writer, the output.
-- Assumes nothing.
use mathlib.Core.List.{List}
use mathlib.Core.Path.{◌≡◌, ◌∙◌, ap, sym}
use Prim.Native.Nat.{ℕ}
use Rattle.fields.specs.declared.Field.{Field}
use Rattle.fields.specs.declared.Refusal.{Refusal}
use Rattle.std.specs.Prelude.{Result}
use Rattle.fields.specs.Write.{Writing, write_field, writing}

-- of `read_field`, `value_length`, `Refusal::number` and `Log::fresh`, whose contracts are an equation of the answer
pub one_answer : {A : Type 0} (said r r' : A) → r ≡ said → r' ≡ said → r ≡ r'
one_answer said r r' e e' = e ∙ sym e'

-- of `write_field`
pub one_writing : (f : Field) (out after after' : List ℕ) (w w' : Result ℕ Refusal) → writing w after ≡ write_field f out → writing w' after' ≡ write_field f out → (w ≡ w') × (after ≡ after')
one_writing f out after after' w w' e e' =
    let same = one_answer (write_field f out) (writing w after) (writing w' after') e e' in
    (ap (λ (x : Writing). x.answer) same, ap (λ (x : Writing). x.output) same)
