-- Logs as bytes: what parsing a log's bytes gives, by fields' two laws (what is read is what is written, and what is written reads
-- back); the bytes of a replay; and what every run over bytes keeps. Assumes nothing.
use Prim.Native.Nat.{◌+◌, ◌/◌, ◌<◌, ◌≤◌, suc, zero, ℕ}
use mathlib.Core.Path.{◌∙◌, ◌≡◌, ap, refl, sym}
use mathlib.Core.List.{List, [], ◌++◌, ◌∷◌, append_assoc, append-nil}
use native.Mathlib.Nat.{le_of_suc-le-suc, not-suc-le-zero}
use native.Mathlib.Omega.{arith}
use lib.ListN.{drop, length, length-append}
use lib.Seq.{drop_at}
use Rattle.std.specs.Prelude.{Ok, Err}
use Rattle.fields.specs.declared.Field.{Field}
use Rattle.fields.specs.Every.{AreBytes, Every}
use Rattle.fields.specs.Bytes.{pack, to_bytes}
use Rattle.fields.specs.Rows.{length_of, row_of, widths_of}
use Rattle.fields.specs.Numbers.{numbers_of}
use Rattle.fields.specs.Read.{Reading, read_field}
use Rattle.fields.specs.Write.{field_bytes}
use Rattle.fields.proofs.Passing.{every_join}
use Rattle.fields.proofs.Writing.{length-field_bytes}
use Rattle.fields.proofs.Packing.{bytes_drop}
use Rattle.fields.proofs.RoundTrip.{Readable, back, there}
use Rattle.rules.specs.declared.Act.{Act}
use Rattle.rules.specs.declared.Stop.TheVariants.{Race, Refuse}
use Rattle.rules.specs.State.{State, fresh}
use Rattle.rules.specs.Commands.{act_of}
use Rattle.rules.specs.Check.{Answer, check}
use Rattle.rules.specs.Effect.{effect}
use Rattle.rules.specs.Run.{Accepted, End, Outcome, next, run, run_to, unread, whole}
use Rattle.rules.specs.Log.{onward, parse, run_bytes}
use Rattle.rules.specs.Replay.{bytes_of, copy_act, copy_field, next_cell, replay, replay_bytes, start}
use Rattle.rules.specs.Matching.{Along, Match}
use Rattle.theorems.proofs.Basics.{every_map}
use Rattle.theorems.proofs.Kept.{NamedAct}
use Rattle.theorems.proofs.Ranges.{Bounded, Small, bounded_effect, bounded_fresh}
use Rattle.theorems.proofs.Tables.{act_copy, readable_copy, readable_named, readable_small}
use Rattle.theorems.proofs.Replayed.{All, Replayed, next-accepted, replayed}

parse_some : (n : ℕ) (b : List ℕ) → 0 < length b → parse (suc n) b ≡ onward (read_field b) b (λ rest. parse n rest)
parse_some n [] h = absurd (not-suc-le-zero h)
parse_some n (x ∷ b) h = refl

-- the bytes of readable fields parse as those fields
parse_bytes : (n : ℕ) (fs : List Field) → Every Readable fs → length fs ≤ n → parse n (bytes_of fs) ≡ record { fields = fs; end = whole }
parse_bytes zero [] a h = refl
parse_bytes (suc n) [] a h = refl
parse_bytes zero (f ∷ fs) a h = absurd (not-suc-le-zero h)
parse_bytes (suc n) (f ∷ fs) a h =
    let size = length-field_bytes f in
    parse_some n (field_bytes f ++ bytes_of fs) (rw (length-append (field_bytes f) (bytes_of fs)) (omega arith))
    ∙ rw (there f (bytes_of fs) a.0, drop_at (field_bytes f) (bytes_of fs) (3 + length_of f.tag) size, parse_bytes n fs a.1 (le_of_suc-le-suc h)) refl

-- ---- what was parsed: readable fields, at most n; their bytes begin the log, and are all of it where the log was read to its end
pub record Taken (n : ℕ) (log : List ℕ) : Type 0 where
  pub readable : Every Readable (parse n log).fields
  pub room : length (parse n log).fields ≤ n
  pub rest : List ℕ
  pub bytes : bytes_of (parse n log).fields ++ rest ≡ log
  pub all : (parse n log).end ≡ whole → rest ≡ []

taken_more : (n : ℕ) (b : ℕ) (bs : List ℕ) (x : Reading) → AreBytes (b ∷ bs) → read_field (b ∷ bs) ≡ x → ((rest : List ℕ) → AreBytes rest → Taken n rest) → Taken (suc n) (b ∷ bs)
taken_more n b bs (Ok f) y e w =
    let q = back (b ∷ bs) f y e in
    let left = drop (3 + length_of f.tag) (b ∷ bs) in
    let v = w left (bytes_drop (3 + length_of f.tag) (b ∷ bs) y) in
    record {
      readable = rw e (q.0, v.readable);
      room = rw e (omega (arith, v.room));
      rest = v.rest;
      bytes = rw e (append_assoc (field_bytes f) (bytes_of (parse n left).fields) v.rest ∙ ap (λ (t : List ℕ). field_bytes f ++ t) v.bytes ∙ sym q.1);
      all = rw e v.all;
    }
taken_more n b bs (Err r) y e w = record {
  readable = rw e tt;
  room = rw e (omega arith);
  rest = b ∷ bs;
  bytes = rw e refl;
  all = rw e (λ z. cc);
}

pub taken : (n : ℕ) (log : List ℕ) → AreBytes log → Taken n log
taken zero [] y = record { readable = tt; room = omega arith; rest = []; bytes = refl; all = λ z. refl }
taken zero (b ∷ bs) y = record { readable = tt; room = omega arith; rest = b ∷ bs; bytes = refl; all = λ z. cc }
taken (suc n) [] y = record { readable = tt; room = omega arith; rest = []; bytes = refl; all = λ z. refl }
taken (suc n) (b ∷ bs) y = taken_more n b bs (read_field (b ∷ bs)) y refl (λ rest z. taken n rest z)

pub taken_named : (n : ℕ) (log : List ℕ) → AreBytes log → All NamedAct (parse n log).fields
taken_named n log y = every_map Readable (λ f. NamedAct (act_of f)) (parse n log).fields readable_named (taken n log y).readable

-- an accepted run ended where the log ends
pub ended : (end : End) (fs : List Field) (s : State) (n k l : ℕ) → (run_to end fs s).verdict ≡ Accepted n k l → end ≡ whole
ended whole fs s n k l e = refl
ended (unread r) [] s n k l e = cc
ended (unread r) (f ∷ fs) s n k l e =
    let g : check (act_of f) s ≡ Ok tt = next-accepted (check (act_of f) s) f s (run_to (unread r) fs (effect (act_of f) s)) n k l e in
    ended (unread r) fs (effect (act_of f) s) n k l (rw g at e)

-- ---- the fields of a replay are readable, and take as many bytes as the log's
pub record Copied (fs gs : List Field) : Type 0 where
  pub readable : Every Readable gs
  pub count : length gs ≡ length fs
  pub bytes : length (bytes_of gs) ≡ length (bytes_of fs)

pub copied : (fs : List Field) (s : State) (n k l : ℕ) → Every Readable fs → Bounded s → All NamedAct (replay s fs) → (run fs s).verdict ≡ Accepted n k l → Copied fs (replay s fs)
copied [] s n k l a b w e = record { readable = tt; count = refl; bytes = refl }
copied (f ∷ fs) s n k l a b w e =
    let g : Field = copy_field s (next_cell s) f in
    let here : check (act_of f) s ≡ Ok tt = next-accepted (check (act_of f) s) f s (run fs (effect (act_of f) s)) n k l e in
    let named : NamedAct (copy_act s (next_cell s) (act_of f)) = rw (act_copy s (next_cell s) f) at w.0 in
    let q = copied fs (effect (act_of f) s) n k l a.1 (bounded_effect (act_of f) s (readable_small f a.0) b) w.1 (rw here at e) in
    record {
      readable = (readable_copy s (next_cell s) f a.0 b named.1, q.readable);
      count = ap suc q.count;
      bytes = omega (arith, length-append (field_bytes g) (bytes_of (replay (effect (act_of f) s) fs)), length-append (field_bytes f) (bytes_of fs), length-field_bytes g, length-field_bytes f, q.bytes);
    }

-- ---- what is written is bytes
bytes_to_bytes : (width n : ℕ) → AreBytes (to_bytes width n)
bytes_to_bytes zero n = tt
bytes_to_bytes (suc width) n = (omega arith, bytes_to_bytes width (n / 256))

bytes_pack : (ws ns : List ℕ) → AreBytes (pack ws ns)
bytes_pack [] ns = tt
bytes_pack (w ∷ ws) [] = every_join (λ x. x < 256) (to_bytes w 0) (pack ws []) (bytes_to_bytes w 0) (bytes_pack ws [])
bytes_pack (w ∷ ws) (n ∷ ns) = every_join (λ x. x < 256) (to_bytes w n) (pack ws ns) (bytes_to_bytes w n) (bytes_pack ws ns)

bytes_field : (f : Field) → AreBytes (field_bytes f)
unfolding field_bytes
bytes_field f = bytes_pack (1 ∷ 2 ∷ widths_of (row_of f.tag)) (f.tag ∷ length_of f.tag ∷ numbers_of f)

bytes_fields : (fs : List Field) → AreBytes (bytes_of fs)
bytes_fields [] = tt
bytes_fields (f ∷ fs) = every_join (λ x. x < 256) (field_bytes f) (bytes_of fs) (bytes_field f) (bytes_fields fs)

-- ---- what each command that passes keeps holds of the state that a run leaves
module _ (P : State → Type 0) (keeps : (a : Act) (s : State) → NamedAct a → Small a.change → check a s ≡ Ok tt → P s → P (effect a s)) where
  kept_next : (x : Answer) (f : Field) (s : State) (later : Outcome) → P s → (x ≡ Ok tt → P later.state) → P (next x s.fields f s later).state
  kept_next (Ok _) f s later p h = h refl
  kept_next (Err (Race v)) f s later p h = p
  kept_next (Err (Refuse r)) f s later p h = p

  kept_run : (end : End) (fs : List Field) (s : State) → Every Readable fs → P s → P (run_to end fs s).state
  kept_run end [] s a p = p
  kept_run end (f ∷ fs) s a p =
      kept_next (check (act_of f) s) f s (run_to end fs (effect (act_of f) s)) p
      (λ e. kept_run end fs (effect (act_of f) s) a.1 (keeps (act_of f) s (readable_named f a.0) (readable_small f a.0) e p))

  pub kept_log : (n : ℕ) (log : List ℕ) → AreBytes log → P fresh → P (run_bytes n log fresh).state
  kept_log n log y p = kept_run (parse n log).end (parse n log).fields fresh (taken n log y).readable p

-- ---- an accepted log of at most n fields, and its replay: their fields, and the bytes of these
pub record Fields (n : ℕ) (log : List ℕ) (fields mallocs live : ℕ) : Type 0 where
  pub readable : Every Readable (parse n log).fields
  pub bytes : bytes_of (parse n log).fields ≡ log
  pub accepted : (run (parse n log).fields fresh).verdict ≡ Accepted fields mallocs live
  pub replays : Replayed (parse n log).fields fields mallocs live
  pub copies : Copied (parse n log).fields (replay fresh (parse n log).fields)
  pub again : parse n (replay_bytes n log) ≡ record { fields = replay fresh (parse n log).fields; end = whole }

pub fields_of : (n : ℕ) (log : List ℕ) (x y l : ℕ) → AreBytes log → (run_bytes n log fresh).verdict ≡ Accepted x y l → Fields n log x y l
unfolding replay_bytes
fields_of n log x y l b e =
    let fs : List Field = (parse n log).fields in
    let z : (parse n log).end ≡ whole = ended (parse n log).end fs fresh x y l e in
    let w = taken n log b in
    let r : (run fs fresh).verdict ≡ Accepted x y l = rw z at e in
    let d = replayed fs x y l (taken_named n log b) r in
    let c = copied fs fresh x y l w.readable bounded_fresh d.named r in
    record {
      readable = w.readable;
      bytes = rw (w.all z, append-nil (bytes_of fs)) at w.bytes;
      accepted = r;
      replays = d;
      copies = c;
      again = parse_bytes n (replay fresh fs) c.readable (omega (arith, c.count, w.room));
    }

-- ---- demand 3 over the bytes of a log of at most n fields
pub record ReplayOf (n : ℕ) (log : List ℕ) (fields mallocs live : ℕ) : Type 0 where
  pub accepted : (run_bytes n (replay_bytes n log) fresh).verdict ≡ Accepted fields mallocs live
  pub size : length (replay_bytes n log) ≡ length log
  pub bytes : AreBytes (replay_bytes n log)
  pub matches : Along Match (parse n log).fields (parse n (replay_bytes n log)).fields fresh fresh start

pub replay_of : (n : ℕ) (log : List ℕ) (x y l : ℕ) → AreBytes log → (run_bytes n log fresh).verdict ≡ Accepted x y l → ReplayOf n log x y l
unfolding replay_bytes
replay_of n log x y l b e =
    let p = fields_of n log x y l b e in
    record {
      accepted = rw p.again p.replays.accepts;
      size = p.copies.bytes ∙ ap length p.bytes;
      bytes = bytes_fields (replay fresh (parse n log).fields);
      matches = rw p.again p.replays.matches;
    }
