-- What the numbers of an accepted log count: the fields that it has, its mallocs, and the cells that it leaves live.
-- Assumes nothing.
use Prim.Native.Nat.{◌+◌, ℕ}
use mathlib.Core.Path.{◌≡◌, refl, sym}
use mathlib.Core.List.{List, [], ◌∷◌}
use native.Mathlib.Omega.{arith}
use lib.ListN.{length, length-append}
use Rattle.std.specs.Prelude.{Ok}
use Rattle.fields.specs.declared.Field.{Field}
use Rattle.fields.specs.Limits.{log_fields}
use Rattle.rules.specs.declared.Act.{Act}
use Rattle.rules.specs.State.{State, fresh}
use Rattle.rules.specs.Acts.{gives}
use Rattle.rules.specs.Check.{check}
use Rattle.rules.specs.Commands.{act_of}
use Rattle.rules.specs.Effect.{effect}
use Rattle.rules.specs.Log.{parse, run_bytes}
use Rattle.rules.specs.Plain.{given_by}
use Rattle.rules.specs.Run.{Accepted, End, live_count, run_to, unread, whole}
use Rattle.rules.proofs.Tallies.{counted}
use Rattle.theorems.proofs.Replayed.{next-accepted}
use Rattle.theorems.proofs.Shown.{effect_mallocs, fresh_fields, fresh_mallocs}

-- from a state on
record Added (end : End) (fs : List Field) (s : State) (n k l : ℕ) : Type 0 where
  read : end ≡ whole
  fields : n ≡ s.fields + length fs
  mallocs : k ≡ s.mallocs + length (given_by fs)
  live : l ≡ live_count (run_to end fs s).state.status

added : (end : End) (fs : List Field) (s : State) (n k l : ℕ) → (run_to end fs s).verdict ≡ Accepted n k l → Added end fs s n k l
added whole [] s n k l e =
    let n' : s.fields ≡ n = cc in
    let k' : s.mallocs ≡ k = cc in
    let l' : live_count s.status ≡ l = cc in
    record { read = refl; fields = omega arith; mallocs = omega arith; live = sym l' }
added (unread r) [] s n k l e = cc
added end (f ∷ fs) s n k l e =
    let a : Act = act_of f in
    let here : check a s ≡ Ok tt = next-accepted (check a s) f s (run_to end fs (effect a s)) n k l e in
    let later = added end fs (effect a s) n k l (rw here at e) in
    record {
      read = later.read;
      fields = omega (arith, later.fields, (counted a s).fields);
      mallocs = omega (arith, later.mallocs, effect_mallocs a s, length-append (gives a.change) (given_by fs));
      live = rw here later.live;
    }

-- every byte of the log is read; its fields, those of them that are mallocs, and the statuses equal to 1 that are left
pub record CountsOf (log : List ℕ) (n k l : ℕ) : Type 0 where
  pub read : (parse log_fields log).end ≡ whole
  pub fields : n ≡ length (parse log_fields log).fields
  pub mallocs : k ≡ length (given_by (parse log_fields log).fields)
  pub live : l ≡ live_count (run_bytes log_fields log fresh).state.status

pub accepted_counts : (log : List ℕ) (fields mallocs live : ℕ) → (run_bytes log_fields log fresh).verdict ≡ Accepted fields mallocs live → CountsOf log fields mallocs live
accepted_counts log n k l e =
    let p = parse log_fields log in
    let c = added p.end p.fields fresh n k l e in
    record { read = c.read; fields = omega (arith, c.fields, fresh_fields); mallocs = omega (arith, c.mallocs, fresh_mallocs); live = c.live }
