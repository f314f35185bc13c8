-- What a line holds: the writer's bytes, where they are known, and those that are still to be written.
-- Assumes nothing.
use Rattle.std.specs.Prelude.{ℕ, List, [], Option}
use Rattle.std.specs.Io.KnownBytes.{append_known}
use Rattle.streams.specs.declared.line.Line.{Line}

-- a line to a writer, with nothing in it yet
abbrev pub fresh_line : {W : Type 0} → W → Line W
fresh_line to = record { to = to; text = record { items = [] } }

abbrev pub line_contents : {W : Type 0} → (W → Option (List ℕ)) → Line W → Option (List ℕ)
line_contents contents line = append_known (contents line.to) line.text.items

-- what is still to be written
abbrev pub line_rest : {W : Type 0} → Line W → List ℕ
line_rest line = line.text.items
