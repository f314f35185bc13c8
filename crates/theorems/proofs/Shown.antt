-- Order 3: of an accepted log and its replay the parts of the same field number are equal but for a malloc's cell and data; what is
-- shown begins at the field's offset; and the field of a stop is shown, unless a reading check gave the stop. Assumes nothing.
use Prim.Native.Nat.{◌+◌, ◌<◌, ◌≤◌, suc, zero, ℕ}
use mathlib.Core.Path.{◌∙◌, ◌≡◌, ap, refl, subst, sym}
use mathlib.Core.Bool.{Bool, cond, false, true}
use mathlib.Core.List.{List, [], ◌++◌, ◌∷◌, append-nil}
use native.Mathlib.Nat.{le_of_suc-le-suc, not-suc-le-zero}
use native.Mathlib.Omega.{arith}
use borrow.Author.Tests.{le-leb, lt-ltb, ltb-true}
use lib.Dec.{leb, ltb}
use lib.ListN.{drop, length, take}
use lib.Seq.{drop-append-add, drop-append_seam, take-append-add, take-append_seam}
use Rattle.std.specs.Prelude.{Ok, Err}
use Rattle.fields.specs.declared.Field.{Field}
use Rattle.fields.specs.declared.Refusal.{Refusal}
use Rattle.fields.specs.declared.Refusal.TheVariants.{FieldNotReached, LogTooLong, TooManyFields, TooManyMallocs}
use Rattle.fields.specs.Bytes.{pack, to_bytes, total}
use Rattle.fields.specs.Checks.{may_name, value_checks}
use Rattle.fields.specs.Every.{AreBytes, Every}
use Rattle.fields.specs.Limits.{header_bytes, log_bytes, log_fields, log_mallocs}
use Rattle.fields.specs.Order.{Test, in_order, test}
use Rattle.fields.specs.Read.{Reading, field_of, framing_checks, read_field, tag_in, value_in}
use Rattle.fields.specs.Refusals.{number_of}
use Rattle.fields.specs.Rows.{field_size, is_tag, length_of, row_of, widths_of}
use Rattle.fields.specs.Write.{field_bytes}
use Rattle.fields.proofs.Digits.{length_to_bytes}
use Rattle.fields.proofs.Passing.{all_passed, either}
use Rattle.fields.proofs.RoundTrip.{Readable, there}
use Rattle.fields.proofs.Tags.{tag_below}
use Rattle.fields.proofs.Writing.{length-field_bytes}
use Rattle.rules.specs.declared.Act.{Act}
use Rattle.rules.specs.declared.Stop.TheVariants.{Race, Refuse}
use Rattle.rules.specs.declared.Change.{Change}
use Rattle.rules.specs.declared.Change.TheVariants.{Allocate, Move, Put, Release, Stay}
use Rattle.rules.specs.declared.ReplayCell.{ReplayCell}
use Rattle.rules.specs.declared.Part.{Part}
use Rattle.rules.specs.declared.Verdict.{Verdict}
use Rattle.rules.specs.declared.Verdict.TheVariants as told
use Rattle.rules.specs.Acts.{gives}
use Rattle.rules.specs.Check.{Answer, check, room_for}
use Rattle.rules.specs.Cases.{bytes_c}
use Rattle.rules.specs.Commands.{act_of, command_of}
use Rattle.rules.specs.Effect.{apply, count_field, effect, free, give}
use Rattle.rules.specs.Log.{located, offset_of, onward, parse, run_bytes}
use Rattle.rules.specs.Replay.{bytes_of, copy_field, next_cell, replay, replay_bytes}
use Rattle.rules.specs.Run.{Accepted, End, Ending, Outcome, Raced, Refused, next, run, run_to, unread, whole}
use Rattle.rules.specs.Showing.{AlikeButGiven, Shown, before_cell, fields_read, mallocs_of, part_in, roomy, shown_in, size_in}
use Rattle.rules.specs.State.{State, fresh, pointer, store, write}
use Rattle.rules.specs.Words.{is_unset}
use Rattle.rules.proofs.Checks.{Clear}
use Rattle.rules.proofs.Tallies.{counted}
use Rattle.theorems.proofs.Passed.{had_room}
use Rattle.theorems.proofs.Logs.{fields_of}
use Rattle.theorems.proofs.Replayed.{next-accepted}
use Rattle.theorems.proofs.Tables.{same_change, same_field_lem}

-- ---- the bytes of a field, and those that come before its cell and its data
tag_first : (f : Field) (r : List ℕ) → is_tag f.tag ≡ true → tag_in (field_bytes f ++ r) ≡ f.tag
unfolding field_bytes
tag_first f r known = let t = tag_below f.tag known in omega arith

tag_here : (f : Field) → is_tag f.tag ≡ true → tag_in (field_bytes f) ≡ f.tag
tag_here f known = rw (append-nil (field_bytes f)) at (tag_first f [] known)

got_field : (s : List ℕ) (f : Field) → read_field s ≡ Ok f → field_of (tag_in s) (value_in s) ≡ f
unfolding read_field
got_field s f e =
    let g = field_of (tag_in s) (value_in s) in
    let p = all_passed Err (Ok g) (framing_checks s ++ value_checks (row_of (tag_in s)) g) (Ok f) (λ r (q : ◌≡◌ {A = Reading} (Err r) (Ok f)). cc) e in
    let q : Ok g ≡ Ok f = p.1 in
    cc

field_here : (f : Field) → Readable f → field_of (tag_in (field_bytes f)) (value_in (field_bytes f)) ≡ f
field_here f R = got_field (field_bytes f) f (rw (append-nil (field_bytes f)) at (there f [] R))

pack-front : (ws vs ns ms : List ℕ) → length ws ≡ length ns → take (total ws) (pack (ws ++ vs) (ns ++ ms)) ≡ pack ws ns
pack-front [] vs ns ms e = refl
pack-front (w ∷ ws) vs [] ms e = absurd (omega (arith, e))
pack-front (w ∷ ws) vs (n ∷ ns) ms e =
    let rest = pack (ws ++ vs) (ns ++ ms) in
    ap (λ (k : ℕ). take (k + total ws) (to_bytes w n ++ rest)) (sym (length_to_bytes w n))
    ∙ take-append-add (to_bytes w n) rest (total ws)
    ∙ ap (λ (l : List ℕ). to_bytes w n ++ l) (pack-front ws vs ns ms (omega (arith, e)))

abbrev front_widths : Field → List ℕ
front_widths f = 1 ∷ 2 ∷ take 4 (widths_of (row_of f.tag))

abbrev front_numbers : Field → List ℕ
front_numbers f = f.tag ∷ length_of f.tag ∷ f.thread ∷ f.first ∷ f.second ∷ f.third ∷ []

bytes_split : (f : Field) → field_bytes f ≡ pack (front_widths f ++ drop 4 (widths_of (row_of f.tag))) (front_numbers f ++ (f.cell.0 ∷ f.number ∷ []))
unfolding field_bytes widths_of
bytes_split f = refl

front_widths_lem : (f : Field) → length (front_widths f) ≡ length (front_numbers f)
unfolding widths_of
front_widths_lem f = refl

front_bytes : (f : Field) → is_tag f.tag ≡ true → before_cell (field_bytes f) ≡ pack (front_widths f) (front_numbers f)
front_bytes f known =
    let size : header_bytes + total (take 4 (widths_of (row_of f.tag))) ≡ total (front_widths f) = omega arith in
    rw (tag_here f known, size)
    (ap (take (total (front_widths f))) (bytes_split f)
    ∙ pack-front (front_widths f) (drop 4 (widths_of (row_of f.tag))) (front_numbers f) (f.cell.0 ∷ f.number ∷ []) (front_widths_lem f))

-- a field's bytes and those of its copy in the replay
alike_copy : (s : State) (k : ReplayCell) (f : Field) → Readable f → AlikeButGiven (field_bytes f) (field_bytes (copy_field s k f))
alike_copy s k f R =
    let g : Field = copy_field s k f in
    record {
      size = length-field_bytes g ∙ sym (length-field_bytes f);
      front = front_bytes g R.tag ∙ sym (front_bytes f R.tag);
      other = λ e.
          let none : gives (act_of f).change ≡ [] = rw (field_here f R) at e in
          let same : g ≡ f = rw (same_change s k (act_of f).change none) (same_field_lem (act_of f).change f none) in
          ap field_bytes same;
    }

-- ---- a log cut at its fields' offsets
-- the log from field n on
abbrev from : ℕ → List ℕ → List ℕ
from n log = drop (offset_of n log) log

module _ (f : Field) (r : List ℕ) (known : is_tag f.tag ≡ true) where
  size_front : size_in (field_bytes f ++ r) ≡ length (field_bytes f)
  size_front = rw (tag_first f r known) (sym (length-field_bytes f))

  part_front : take (size_in (field_bytes f ++ r)) (field_bytes f ++ r) ≡ field_bytes f
  part_front = rw size_front (take-append_seam (field_bytes f) r)

  rest_front : drop (size_in (field_bytes f ++ r)) (field_bytes f ++ r) ≡ r
  rest_front = rw size_front (drop-append_seam (field_bytes f) r)

  offset_later : (n : ℕ) → offset_of (suc n) (field_bytes f ++ r) ≡ length (field_bytes f) + offset_of n r
  offset_later n = rw (rest_front, size_front) refl

  from_later : (n : ℕ) → from (suc n) (field_bytes f ++ r) ≡ from n r
  from_later n = rw (offset_later n) (drop-append-add (field_bytes f) r (offset_of n r))

-- field n of two logs: at the same place, of the same size, and alike
record Beside (log copy : List ℕ) (n : ℕ) : Type 0 where
  offset : offset_of n copy ≡ offset_of n log
  size : size_in (from n copy) ≡ size_in (from n log)
  alike : AlikeButGiven (take (size_in (from n log)) (from n log)) (take (size_in (from n copy)) (from n copy))

beside : (fs : List Field) (s : State) (n : ℕ) → Every Readable fs → Every Readable (replay s fs) → n < length fs → Beside (bytes_of fs) (bytes_of (replay s fs)) n
beside [] s n R C h = absurd (not-suc-le-zero h)
beside (f ∷ fs) s zero R C h =
    let g : Field = copy_field s (next_cell s) f in
    let r = bytes_of fs in
    let r' = bytes_of (replay (effect (act_of f) s) fs) in
    record {
      offset = refl;
      size = rw (tag_first f r R.0.tag, tag_first g r' C.0.tag) refl;
      alike = rw (part_front f r R.0.tag, part_front g r' C.0.tag) (alike_copy s (next_cell s) f R.0);
    }
beside (f ∷ fs) s (suc n) R C h =
    let g : Field = copy_field s (next_cell s) f in
    let r = bytes_of fs in
    let r' = bytes_of (replay (effect (act_of f) s) fs) in
    let later = beside fs (effect (act_of f) s) n R.1 C.1 (le_of_suc-le-suc h) in
    record {
      offset = rw (offset_later f r R.0.tag n, offset_later g r' C.0.tag n) (omega (arith, later.offset, length-field_bytes f, length-field_bytes g));
      size = rw (from_later f r R.0.tag n, from_later g r' C.0.tag n) later.size;
      alike = rw (from_later f r R.0.tag n, from_later g r' C.0.tag n) later.alike;
    }

-- ---- what is shown of two logs whose fields stand beside each other
pub record ShownAlike (log copy : List ℕ) (n : ℕ) : Type 0 where
  -- the same place and size, or the same refusal
  pub answer : shown_in copy n ≡ shown_in log n
  pub parts : AlikeButGiven (part_in log n) (part_in copy n)

shown_by : (log : List ℕ) (n : ℕ) (t u : Bool) → leb (length log) log_bytes ≡ t → ltb n (length (fields_read log)) ≡ u
    → shown_in log n ≡ cond t (cond u (Ok (record { at = offset_of n log; size = size_in (from n log) })) (Err (FieldNotReached, 0))) (Err (LogTooLong, 0))
unfolding shown_in
shown_by log n t u e f = rw (e, f) refl

alike-none : AlikeButGiven [] []
alike-none = record { size = refl; front = refl; other = λ e. refl }

shown_beside : (log copy : List ℕ) (n : ℕ) → length copy ≡ length log → length (fields_read copy) ≡ length (fields_read log)
    → (n < length (fields_read log) → Beside log copy n) → ShownAlike log copy n
shown_beside log copy n size count both = by (leb (length log) log_bytes) (ltb n (length (fields_read log))) refl refl
  where
    by : (t u : Bool) → leb (length log) log_bytes ≡ t → ltb n (length (fields_read log)) ≡ u → ShownAlike log copy n
    by true true e f =
        let p = shown_by log n true true e f in
        let q = shown_by copy n true true (rw size e) (rw count f) in
        let b = both (ltb-true n (length (fields_read log)) f) in
        record { answer = rw (p, q, b.size, b.offset) refl; parts = rw (p, q) b.alike }
    by true false e f =
        let p = shown_by log n true false e f in
        let q = shown_by copy n true false (rw size e) (rw count f) in
        record { answer = rw (p, q) refl; parts = rw (p, q) alike-none }
    by false u e f =
        let p = shown_by log n false u e f in
        let q = shown_by copy n false u (rw size e) (rw count f) in
        record { answer = rw (p, q) refl; parts = rw (p, q) alike-none }

-- ---- check 11
mallocs_after : (c : Change) (s : State) → (apply c s).mallocs ≡ s.mallocs + length (gives c)
unfolding give write store free
mallocs_after Stay s = omega arith
mallocs_after (Allocate p c d) s = omega arith
mallocs_after (Release p) s = either (λ (t : State). t.mallocs ≡ s.mallocs + 0) (is_unset (pointer s p)) (omega arith) (omega arith)
mallocs_after (Move x y) s = omega arith
mallocs_after (Put x v) s = omega arith

pub effect_mallocs : (a : Act) (s : State) → (effect a s).mallocs ≡ s.mallocs + length (gives a.change)
unfolding count_field
effect_mallocs a s = mallocs_after a.change s

room_clear : (c : Change) (s : State) → s.mallocs ≤ log_mallocs → Clear (room_for s) (gives c) → s.mallocs + length (gives c) ≤ log_mallocs
room_clear Stay s h e = omega arith
room_clear (Allocate p c d) s h e = omega (arith, ltb-true s.mallocs log_mallocs e.0)
room_clear (Release p) s h e = omega arith
room_clear (Move x y) s h e = omega arith
room_clear (Put x v) s h e = omega arith

-- a command that is not refused by 11 has room
room_left : (a : Act) (s : State) (x : Answer) → s.mallocs ≤ log_mallocs → (x ≡ Err (Refuse TooManyMallocs) → ⊥) → check a s ≡ x → s.mallocs + length (gives a.change) ≤ log_mallocs
room_left a s x h n e = room_clear a.change s h (had_room a s x n e)

-- where every command is let through, 11 stops none
all_roomy : (fs : List Field) (s : State) (n k l : ℕ) → s.mallocs ≤ log_mallocs → (run fs s).verdict ≡ Accepted n k l → roomy s.mallocs fs ≡ fs
all_roomy [] s n k l h e = refl
all_roomy (f ∷ fs) s n k l h e =
    let a : Act = act_of f in
    let here : check a s ≡ Ok tt = next-accepted (check a s) f s (run fs (effect a s)) n k l e in
    let room = room_left a s (Ok tt) h (λ q. cc) here in
    let count = effect_mallocs a s in
    let later : roomy (effect a s).mallocs fs ≡ fs = all_roomy fs (effect a s) n k l (omega (arith, count, room)) (rw here at e) in
    rw (le-leb (s.mallocs + mallocs_of f) log_mallocs room) (ap (λ (r : List Field). f ∷ r) (rw count at later))

pub fresh_fields : fresh.fields ≡ 0
unfolding fresh
fresh_fields = refl

pub fresh_mallocs : fresh.mallocs ≡ 0
unfolding fresh
fresh_mallocs = refl

-- of an accepted log every field is read
all_read : (log : List ℕ) (fs : List Field) (n k l : ℕ) → (parse log_fields log).fields ≡ fs → (run fs fresh).verdict ≡ Accepted n k l → fields_read log ≡ fs
all_read log fs n k l e q = rw e (rw fresh_mallocs at (all_roomy fs fresh n k l (omega (arith, fresh_mallocs)) q))

-- for an accepted log and its replay, the two parts of the same field number are equal but for a malloc's cell and data
pub shown-alike : (log : List ℕ) (fields mallocs live : ℕ) → AreBytes log → (run_bytes log_fields log fresh).verdict ≡ Accepted fields mallocs live
    → (n : ℕ) → ShownAlike log (replay_bytes log_fields log) n
unfolding replay_bytes
shown-alike log x y l b e n =
    let p = fields_of log_fields log x y l b e in
    let fs : List Field = (parse log_fields log).fields in
    let gs : List Field = replay fresh fs in
    let all = all_read log fs x y l refl p.accepted in
    let all' = all_read (replay_bytes log_fields log) gs x y l (rw p.again refl) p.replays.accepts in
    shown_beside log (replay_bytes log_fields log) n (p.copies.bytes ∙ ap length p.bytes) (rw (all, all') p.copies.count)
    (λ h. rw p.bytes at (beside fs fresh n p.readable p.copies.readable (rw all at h)))

-- ---- what is shown begins at the field's offset, that of a stop among them
same_part : (p q : Part) → ◌≡◌ {A = Shown} (Ok p) (Ok q) → p ≡ q
same_part p q e = cc

pub shown_starts : (log : List ℕ) (n at size : ℕ) → shown_in log n ≡ Ok (record { at = at; size = size }) → at ≡ offset_of n log
unfolding shown_in
shown_starts log n at size e =
    let whole : Shown = Ok (record { at = offset_of n log; size = size_in (from n log) }) in
    let p = all_passed (λ r. Err (r, 0)) whole
    (test (leb (length log) log_bytes) LogTooLong ∷ test (ltb n (length (fields_read log))) FieldNotReached ∷ [])
    (Ok (record { at = at; size = size })) (λ r (q : ◌≡◌ {A = Shown} (Err (r, 0)) (Ok (record { at = at; size = size }))). cc) e in
    sym (ap (λ (part : Part). part.at) (same_part (record { at = offset_of n log; size = size_in (from n log) }) (record { at = at; size = size }) p.1))

-- ---- the field of a stop is shown, unless a reading check gave the stop
-- the refusals of the reading checks are 3 to 11
abbrev pub ByReading : Refusal → Type 0
ByReading r = number_of r ≤ 11

-- what the tests of a field to be read come to
abbrev read_by : Field → List (Test Refusal) → Reading
read_by f ts = in_order Err (Ok f) ts

says : (f : Field) (ts : List (Test Refusal)) (r : Refusal) → Every (λ t. ByReading t.says) ts → read_by f ts ≡ Err r → ByReading r
says f [] r all e = cc
says f (t ∷ ts) r all e = by t.passes e (λ q. says f ts r all.1 q)
  where
    by : (b : Bool) → cond b (read_by f ts) (Err t.says) ≡ Err r → (read_by f ts ≡ Err r → ByReading r) → ByReading r
    by true e later = later e
    by false e later = let same : t.says ≡ r = cc in subst ByReading same all.0

read_refusal : (s : List ℕ) (r : Refusal) → read_field s ≡ Err r → ByReading r
unfolding read_field
read_refusal s r e =
    let f = field_of (tag_in s) (value_in s) in
    says f (framing_checks s ++ value_checks (row_of (tag_in s)) f) r
    (omega arith, (omega arith, (omega arith, (omega arith, (omega arith, (omega arith, (omega arith, (omega arith, tt)))))))) e

pub parse_end : (k : ℕ) (b : List ℕ) (r : Refusal) → (parse k b).end ≡ unread r → ByReading r
parse_end zero [] r e = cc
parse_end zero (x ∷ b) r e = let same : TooManyFields ≡ r = cc in subst ByReading same (omega arith)
parse_end (suc k) [] r e = cc
parse_end (suc k) (x ∷ b) r e = by (read_field (x ∷ b)) refl e (λ rest q. parse_end k rest r q)
  where
    by : (y : Reading) → read_field (x ∷ b) ≡ y → (onward y (x ∷ b) (λ rest. parse k rest)).end ≡ unread r
        → ((rest : List ℕ) → (parse k rest).end ≡ unread r → ByReading r) → ByReading r
    by (Ok f) read e later = later (drop (field_size f.tag) (x ∷ b)) e
    by (Err q) read e later = let same : q ≡ r = cc in read_refusal (x ∷ b) r (read ∙ ap Err same)

-- a stop at field n by what the field does: a race, or a refusal that no reading check gives
abbrev pub ByDeed : Ending → ℕ → Type 0
ByDeed (Accepted fields mallocs live) n = ⊥
ByDeed (Raced field thread variable) n = field ≡ n
ByDeed (Refused r field) n = (field ≡ n) × (11 < number_of r)

reached : (end : End) (fs : List Field) (s : State) (n : ℕ) → ((r : Refusal) → end ≡ unread r → ByReading r) → s.mallocs ≤ log_mallocs
    → ByDeed (run_to end fs s).verdict n → n < s.fields + length (roomy s.mallocs fs)
reached whole [] s n reading h stop = absurd stop
reached (unread r) [] s n reading h stop = absurd (let few : number_of r ≤ 11 = reading r refl in omega (arith, stop.1))
reached end (f ∷ fs) s n reading h stop = by (check (act_of f) s) refl stop (λ room later. reached end fs (effect (act_of f) s) n reading room later)
  where
    later : Outcome
    later = run_to end fs (effect (act_of f) s)

    -- where check 11 lets the field through
    within : s.mallocs + mallocs_of f ≤ log_mallocs → n < s.fields + suc (length (roomy (s.mallocs + mallocs_of f) fs)) → n < s.fields + length (roomy s.mallocs (f ∷ fs))
    within room far = rw (le-leb (s.mallocs + mallocs_of f) log_mallocs room) far

    by : (x : Answer) → check (act_of f) s ≡ x → ByDeed (next x s.fields f s later).verdict n
        → ((effect (act_of f) s).mallocs ≤ log_mallocs → ByDeed later.verdict n → n < (effect (act_of f) s).fields + length (roomy (effect (act_of f) s).mallocs fs))
        → n < s.fields + length (roomy s.mallocs (f ∷ fs))
    by (Ok _) e stop on =
        let room = room_left (act_of f) s (Ok tt) h (λ q. cc) e in
        let count = effect_mallocs (act_of f) s in
        let far = rw count at (on (omega (arith, count, room)) stop) in
        within room (omega (arith, far, (counted (act_of f) s).fields))
    by (Err (Race p)) e stop on = within (room_left (act_of f) s (Err (Race p)) h (λ q. cc) e) (omega (arith, stop))
    by (Err (Refuse r)) e stop on = within (room_left (act_of f) s (Err (Refuse r)) h (λ q. let same : r ≡ TooManyMallocs = cc in omega (arith, stop.1, ap number_of same)) e) (omega (arith, stop.0))

pub stop_shown : (log : List ℕ) (n : ℕ) → length log ≤ log_bytes → ByDeed (run_bytes log_fields log fresh).verdict n
    → shown_in log n ≡ Ok (record { at = offset_of n log; size = size_in (drop (offset_of n log) log) })
stop_shown log n h stop =
    let end = parse_end log_fields log in
    let far = rw (fresh_fields, fresh_mallocs) at (reached (parse log_fields log).end (parse log_fields log).fields fresh n end (omega (arith, fresh_mallocs)) stop) in
    shown_by log n true true (le-leb (length log) log_bytes h) (lt-ltb n (length (fields_read log)) (omega (arith, far)))

-- what a verdict that stops at a field tells of it: its number and its byte offset
abbrev pub StopsAt : Verdict → ℕ → ℕ → Type 0
StopsAt (told.Accepted fields mallocs live) n offset = ⊥
StopsAt (told.Raced field thread variable o) n offset = (field ≡ n) × (o ≡ offset)
StopsAt (told.Refused r field o) n offset = (field ≡ n) × (o ≡ offset)
StopsAt (told.Declined r) n offset = ⊥

-- the part at a stop's field number starts at the stop's offset
pub stop_starts : (log : List ℕ) (ending : Ending) (n offset at size : ℕ) → StopsAt (located log ending) n offset → shown_in log n ≡ Ok (record { at = at; size = size }) → at ≡ offset
stop_starts log (Accepted fields mallocs live) n offset at size stop shown = absurd stop
stop_starts log (Raced field thread variable) n offset at size stop shown = shown_starts log n at size shown ∙ (rw stop.0 at stop.1)
stop_starts log (Refused r field) n offset at size stop shown = shown_starts log n at size shown ∙ (rw stop.0 at stop.1)

-- ---- case C: the field that races, and none after it
pub race_of_c : (shown_in bytes_c 3 ≡ Ok (record { at = 22; size = 6 })) × (part_in bytes_c 3 ≡ 6 ∷ 3 ∷ 0 ∷ 1 ∷ 24 ∷ 24 ∷ [])
unfolding row_of is_tag widths_of length_of may_name field_of read_field command_of shown_in
race_of_c = (refl, refl)

pub past_c : (shown_in bytes_c 4 ≡ Err (FieldNotReached, 0)) × (part_in bytes_c 4 ≡ [])
unfolding row_of is_tag widths_of length_of may_name field_of read_field command_of shown_in
past_c = (refl, refl)
