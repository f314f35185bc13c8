-- One command's step, put together of its answer and of what followed from it.
-- Assumes nothing.
use Rattle.std.proofs.Common.{◌≡◌, Ok, Err, sym, ap, ◌∙◌}
use Rattle.rules.proofs.Tallies.{fields_kept}
use Rattle.rules.specs.declared.Act.{Act}
use Rattle.rules.specs.declared.Change.{Change}
use Rattle.rules.specs.declared.Change.TheVariants.{Stay}
use Rattle.rules.specs.declared.Guard.{Guard}
use Rattle.rules.specs.declared.Stop.{Stop}
use Rattle.rules.specs.Acts.{gives}
use Rattle.rules.specs.Check.{Answer, check}
use Rattle.rules.specs.Effect.{apply, count_field, effect}
use Rattle.rules.specs.State.{State}
use Rattle.judge.specs.Answers.{check_change, guarded_in, room_in}
use Rattle.judge.specs.Steps.{Step, change_of, state_after, step_of}
use Rattle.judge.proofs.Answers.{check_kinds}

module _ (guard : Guard) (change : Change) (s : State) (result : Answer) (r : Stop) (told : result ≡ Err r) where
  -- 11 stops it
  pub play_full : (room : Answer) → room ≡ room_in s.mallocs (gives change) → room ≡ Err r → ◌≡◌ {A = Step} (record { answer = result; state = s }) (change_of (record { guard = guard; change = change }) s)
  unfolding change_of
  play_full room e stops = rw (told, ← check_kinds guard change s, ← e, stops)

  -- a later check stops it
  pub play_stop : (room own answer : Answer) → room ≡ room_in s.mallocs (gives change) → room ≡ Ok tt → own ≡ check_change change s → answer ≡ guarded_in s.pointers s.variables guard own
      → answer ≡ Err r → ◌≡◌ {A = Step} (record { answer = result; state = s }) (change_of (record { guard = guard; change = change }) s)
  unfolding change_of
  play_stop room own answer e roomy owned checked stops = rw (told, ← check_kinds guard change s, ← e, roomy, ← owned, ← checked, stops)

-- every check passes, and the change is made
pub play_on : (guard : Guard) (change : Change) (s t : State) (room own answer : Answer) → room ≡ room_in s.mallocs (gives change) → room ≡ Ok tt → own ≡ check_change change s
    → answer ≡ guarded_in s.pointers s.variables guard own → answer ≡ Ok tt → t ≡ apply change s → ◌≡◌ {A = Step} (record { answer = Ok tt; state = t }) (change_of (record { guard = guard; change = change }) s)
unfolding change_of
play_on guard change s t room own answer e roomy owned checked passes made = rw (← check_kinds guard change s, ← e, roomy, ← owned, ← checked, passes, made)

-- where the checks pass, the field is counted
pub counted_on : (a : Act) (s t : State) (answer : Answer) → ◌≡◌ {A = Step} (record { answer = answer; state = t }) (change_of a s) → answer ≡ Ok tt → ◌≡◌ {A = Step} (record { answer = Ok tt; state = count_field t }) (step_of a s)
unfolding change_of step_of
counted_on a s t answer e passes = by (check a s) (ap (λ (x : Step). x.answer) e) (ap (λ (x : Step). x.state) e)
  where
    by : (k : Answer) → answer ≡ k → t ≡ state_after k s (apply a.change s) → ◌≡◌ {A = Step} (record { answer = Ok tt; state = count_field t }) (record { answer = k; state = state_after k s (effect a s) })
    by (Ok _) same made = rw made
    by (Err r) same made = absurd (let wrong : ◌≡◌ {A = Answer} (Ok tt) (Err r) = sym passes ∙ same in cc)

pub counted_stop : (a : Act) (s t : State) (answer result : Answer) (r : Stop) → ◌≡◌ {A = Step} (record { answer = answer; state = t }) (change_of a s) → answer ≡ Err r → result ≡ Err r → ◌≡◌ {A = Step} (record { answer = result; state = t }) (step_of a s)
unfolding change_of step_of
counted_stop a s t answer result r e stops told = by (check a s) (ap (λ (x : Step). x.answer) e) (ap (λ (x : Step). x.state) e)
  where
    by : (k : Answer) → answer ≡ k → t ≡ state_after k s (apply a.change s) → ◌≡◌ {A = Step} (record { answer = result; state = t }) (record { answer = k; state = state_after k s (effect a s) })
    by (Ok _) same made = absurd (let wrong : ◌≡◌ {A = Answer} (Err r) (Ok tt) = sym stops ∙ same in cc)
    by (Err k) same made = rw (made, told) (let e : Err r ≡ Err k = sym stops ∙ same in rw e)

-- an assertion changes nothing
pub play_stay : (a : Act) (s : State) (answer : Answer) → a.change ≡ Stay → answer ≡ guarded_in s.pointers s.variables a.guard (Ok tt) → ◌≡◌ {A = Step} (record { answer = answer; state = s }) (change_of a s)
unfolding change_of
play_stay a s answer stays checked = rw (stays, checked) (by (guarded_in s.pointers s.variables a.guard (Ok tt)) (check_kinds a.guard Stay s))
  where
    by : (k : Answer) → k ≡ check (record { guard = a.guard; change = Stay }) s → ◌≡◌ {A = Step} (record { answer = k; state = s })
        (record { answer = check (record { guard = a.guard; change = Stay }) s; state = state_after (check (record { guard = a.guard; change = Stay }) s) s s })
    by (Ok _) e = rw (← e)
    by (Err r) e = rw (← e)

-- before it is counted, a field leaves the number of fields as it was
pub uncounted : (a : Act) (s t : State) (answer : Answer) → ◌≡◌ {A = Step} (record { answer = answer; state = t }) (change_of a s) → t.fields ≡ s.fields
unfolding change_of
uncounted a s t answer e = by (check a s) (ap (λ (x : Step). x.state) e)
  where
    by : (k : Answer) → t ≡ state_after k s (apply a.change s) → t.fields ≡ s.fields
    by (Ok _) made = fields_kept a.change s t made
    by (Err r) made = rw made
