-- Source 004, "Pointer Race Freedom", sections 2 and 3, in its own notions: heaps, updates, computations of the memory-managed
-- semantics, freed addresses, valid pointer expressions (Definition 1), pointer races (Definition 2), and heaps that are isomorphic on
-- the valid pointers (Definitions 3 and 4). Assumes nothing.
use Rattle.std.specs.Prelude.{ℕ, ◌≡◌, Bool, true, false, not, cond, ◌&&◌, ◌||◌, ◌⊎◌, List, [], ◌∷◌, eqb}

-- ---- 2, syntax
-- Variables and data are numbers. The paper's finitely many selectors are two here.
pub data Selector : Type 0 where
  next₀ : Selector
  next₁ : Selector

abbrev pub index : Selector → ℕ
index next₀ = 0
index next₁ = 1

-- cond ::= p = q | x = y | ¬ cond
pub data Cond : Type 0 where
  same_pointers : ℕ → ℕ → Cond
  same_data : ℕ → ℕ → Cond
  negated : Cond → Cond

pub data Com : Type 0 where
  Assert : Cond → Com
  -- p := malloc; p := free
  Malloc : ℕ → Com
  Free : ℕ → Com
  -- p := q.next; p.next := q; p := q
  Load : ℕ → ℕ → Selector → Com
  Store : ℕ → Selector → ℕ → Com
  Copy : ℕ → ℕ → Com
  -- x := p.data; p.data := x; x := op(x₁, .., xₙ)
  ReadData : ℕ → ℕ → Com
  WriteData : ℕ → ℕ → Com
  Compute : ℕ → (List ℕ → ℕ) → List ℕ → Com

-- ---- 2, heaps
-- seg: the pointer has not yet been assigned a cell
pub data Adr : Type 0 where
  seg : Adr
  cell : ℕ → Adr

-- PExp: p, or a.next for an address a other than seg; DExp: x, or a.data
pub data PExp : Type 0 where
  pointer_var : ℕ → PExp
  next_of : ℕ → Selector → PExp

pub data DExp : Type 0 where
  data_var : ℕ → DExp
  data_of : ℕ → DExp

pub data Partial (A : Type 0) : Type 0 where
  undefined : Partial A
  defined : A → Partial A

pub record Heap : Type 0 where
  pub pval : PExp → Partial Adr
  pub dval : DExp → Partial ℕ

abbrev pub same_p_exp : PExp → PExp → Bool
same_p_exp (pointer_var p) (pointer_var q) = eqb p q
same_p_exp (pointer_var p) (next_of b j) = false
same_p_exp (next_of a i) (pointer_var q) = false
same_p_exp (next_of a i) (next_of b j) = eqb a b && eqb (index i) (index j)

abbrev pub same_d_exp : DExp → DExp → Bool
same_d_exp (data_var x) (data_var y) = eqb x y
same_d_exp (data_var x) (data_of b) = false
same_d_exp (data_of a) (data_var y) = false
same_d_exp (data_of a) (data_of b) = eqb a b

-- adr(h): the addresses in use, those of dom(pval), of range(pval) and of dom(dval)
pub record Defined {A : Type 0} (x : Partial A) : Type 0 where
  pub what : A
  pub is : x ≡ defined what

abbrev pub InUse : Heap → ℕ → Type 0
InUse h a = ((i : Selector) × Defined (h.pval (next_of a i))) ⊎ ((e : PExp) × (h.pval e ≡ defined (cell a))) ⊎ Defined (h.dval (data_of a))

-- ---- 2, updates: [pexp ↦ a], [dexp ↦ d]
pub data Update : Type 0 where
  pointer_to : PExp → Adr → Update
  data_to : DExp → ℕ → Update

abbrev pub updated : Heap → List Update → Heap
updated h [] = h
updated h (pointer_to e a ∷ ups) = updated (record { pval = λ q. cond (same_p_exp e q) (defined a) (h.pval q); dval = h.dval }) ups
updated h (data_to e d ∷ ups) = updated (record { pval = h.pval; dval = λ q. cond (same_d_exp e q) (defined d) (h.dval q) }) ups

-- ---- 2, computations: sequences of actions, the newest last
pub record Action : Type 0 where
  pub thread : ℕ
  pub command : Com
  pub up : List Update

-- The base case is the single action (⊥, ⊥, [pval, dval]): no pointer variable is mapped to a cell, and the data variables hold
-- arbitrary values. (Document 01 starts them at 0.)
pub data Computation : Type 0 where
  initial : (ℕ → ℕ) → Computation
  then : Computation → Action → Computation

abbrev pub pval_at_first : PExp → Partial Adr
pval_at_first (pointer_var p) = defined seg
pval_at_first (next_of a i) = undefined

abbrev pub dval_at_first : (ℕ → ℕ) → DExp → Partial ℕ
dval_at_first d (data_var x) = defined (d x)
dval_at_first d (data_of a) = undefined

-- h_τ
abbrev pub heap_of : Computation → Heap
heap_of (initial d) = record { pval = pval_at_first; dval = dval_at_first d }
heap_of (then τ act) = updated (heap_of τ) act.up

abbrev pub points_to : Partial Adr → ℕ → Bool
points_to undefined a = false
points_to (defined seg) a = false
points_to (defined (cell b)) a = eqb b a

-- freed_τ: what is freed is added, what malloc returns is taken away (it returns what p holds afterwards)
abbrev pub freed_after : Com → Heap → Heap → (ℕ → Bool) → ℕ → Bool
freed_after (Assert c) before after freed a = freed a
freed_after (Malloc p) before after freed a = freed a && not (points_to (after.pval (pointer_var p)) a)
freed_after (Free p) before after freed a = freed a || points_to (before.pval (pointer_var p)) a
freed_after (Load p q i) before after freed a = freed a
freed_after (Store p i q) before after freed a = freed a
freed_after (Copy p q) before after freed a = freed a
freed_after (ReadData x p) before after freed a = freed a
freed_after (WriteData p x) before after freed a = freed a
freed_after (Compute x op xs) before after freed a = freed a

abbrev pub freed_in : Computation → ℕ → Bool
freed_in (initial d) a = false
freed_in (then τ act) a = freed_after act.command (heap_of τ) (heap_of (then τ act)) (freed_in τ) a

-- ---- 3, Definition 1: the valid pointer expressions
-- to pass a valid pointer adds the receiver, to pass an invalid one takes it away
abbrev pub received : Bool → PExp → (PExp → Bool) → PExp → Bool
received true receiver valid e = valid e || same_p_exp receiver e
received false receiver valid e = valid e && not (same_p_exp receiver e)

-- h(q).next, for what h(q) may be
abbrev pub valid_next : Partial Adr → Selector → (PExp → Bool) → Bool
valid_next undefined i valid = false
valid_next (defined seg) i valid = false
valid_next (defined (cell a)) i valid = valid (next_of a i)

abbrev pub received_next : Partial Adr → Selector → Bool → (PExp → Bool) → PExp → Bool
received_next undefined i b valid e = valid e
received_next (defined seg) i b valid e = valid e
received_next (defined (cell a)) i b valid e = received b (next_of a i) valid e

-- invalid_a for a = h(p): what points to a, and the selectors of a; nothing where a = seg
abbrev pub is_next_of : ℕ → PExp → Bool
is_next_of a (pointer_var p) = false
is_next_of a (next_of b i) = eqb b a

abbrev pub invalid_for : Partial Adr → Heap → PExp → Bool
invalid_for undefined h e = false
invalid_for (defined seg) h e = false
invalid_for (defined (cell a)) h e = points_to (h.pval e) a || is_next_of a e

abbrev pub valid_after : Com → Heap → (PExp → Bool) → PExp → Bool
valid_after (Assert c) h valid e = valid e
valid_after (Malloc p) h valid e = valid e || same_p_exp (pointer_var p) e
valid_after (Free p) h valid e = valid e && not (invalid_for (h.pval (pointer_var p)) h e)
valid_after (Load p q i) h valid e = received (valid (pointer_var q) && valid_next (h.pval (pointer_var q)) i valid) (pointer_var p) valid e
valid_after (Store p i q) h valid e = received_next (h.pval (pointer_var p)) i (valid (pointer_var q)) valid e
valid_after (Copy p q) h valid e = received (valid (pointer_var q)) (pointer_var p) valid e
valid_after (ReadData x p) h valid e = valid e
valid_after (WriteData p x) h valid e = valid e
valid_after (Compute x op xs) h valid e = valid e

abbrev pub valid_in : Computation → PExp → Bool
valid_in (initial d) e = true
valid_in (then τ act) e = valid_after act.command (heap_of τ) (valid_in τ) e

-- ---- 3, Definition 2: (i) a command containing p.data or p.next or p := free with p not valid; (ii) an assertion containing such a p
abbrev pub NotValid : (PExp → Bool) → ℕ → Type 0
NotValid valid p = valid (pointer_var p) ≡ false

abbrev pub ContainsInvalid : (PExp → Bool) → Cond → Type 0
ContainsInvalid valid (same_pointers p q) = NotValid valid p ⊎ NotValid valid q
ContainsInvalid valid (same_data x y) = ⊥
ContainsInvalid valid (negated c) = ContainsInvalid valid c

abbrev pub PointerRace : (PExp → Bool) → Com → Type 0
PointerRace valid (Assert c) = ContainsInvalid valid c
PointerRace valid (Malloc p) = ⊥
PointerRace valid (Free p) = NotValid valid p
PointerRace valid (Load p q i) = NotValid valid q
PointerRace valid (Store p i q) = NotValid valid p
PointerRace valid (Copy p q) = ⊥
PointerRace valid (ReadData x p) = NotValid valid p
PointerRace valid (WriteData p x) = NotValid valid p
PointerRace valid (Compute x op xs) = ⊥

-- the pointers of which that is asked, in the order in which the command names them; and that one of some pointers is not valid
abbrev pub pointers_of : Cond → List ℕ
pointers_of (same_pointers p q) = p ∷ q ∷ []
pointers_of (same_data x y) = []
pointers_of (negated c) = pointers_of c

abbrev pub contained : Com → List ℕ
contained (Assert c) = pointers_of c
contained (Malloc p) = []
contained (Free p) = p ∷ []
contained (Load p q i) = q ∷ []
contained (Store p i q) = p ∷ []
contained (Copy p q) = []
contained (ReadData x p) = p ∷ []
contained (WriteData p x) = p ∷ []
contained (Compute x op xs) = []

abbrev pub SomeNotValid : (PExp → Bool) → List ℕ → Type 0
SomeNotValid valid [] = ⊥
SomeNotValid valid (p ∷ ps) = NotValid valid p ⊎ SomeNotValid valid ps

abbrev pub RaceFree : Computation → Type 0
RaceFree (initial d) = Unit {0}
RaceFree (then τ act) = RaceFree τ × (PointerRace (valid_in τ) act.command → ⊥)

-- ---- 2, the rules of the memory-managed semantics
-- a condition passes, wanted or (false) with its opposite wanted; both pass where a pointer is seg
abbrev pub is_seg : Partial Adr → Bool
is_seg undefined = false
is_seg (defined seg) = true
is_seg (defined (cell a)) = false

abbrev pub same_adr : Partial Adr → Partial Adr → Bool
same_adr undefined w = false
same_adr (defined seg) w = false
same_adr (defined (cell a)) w = points_to w a

abbrev pub same_number : Partial ℕ → Partial ℕ → Bool
same_number undefined w = false
same_number (defined m) undefined = false
same_number (defined m) (defined n) = eqb m n

abbrev pub wanted_is : Bool → Bool → Bool
wanted_is true found = found
wanted_is false found = not found

abbrev pub passes : Bool → Heap → Cond → Bool
passes wanted h (same_pointers p q) =
    let v = h.pval (pointer_var p) in
    let w = h.pval (pointer_var q) in
    is_seg v || is_seg w || wanted_is wanted (same_adr v w)
passes wanted h (same_data x y) = wanted_is wanted (same_number (h.dval (data_var x)) (h.dval (data_var y)))
passes wanted h (negated c) = passes (not wanted) h c

-- the values of data variables
abbrev pub Values : Heap → List ℕ → List ℕ → Type 0
Values h [] [] = Unit {0}
Values h [] (v ∷ vs) = ⊥
Values h (x ∷ xs) [] = ⊥
Values h (x ∷ xs) (v ∷ vs) = (h.dval (data_var x) ≡ defined v) × Values h xs vs

pub data Rule (h : Heap) (freed : ℕ → Bool) : Com → List Update → Type 0 where
  -- (Asgn), which the paper writes out for p.next := q
  Asgn-store : {p q a : ℕ} {i : Selector} {b : Adr} → h.pval (pointer_var p) ≡ defined (cell a) → h.pval (pointer_var q) ≡ defined b → Rule h freed (Store p i q) (pointer_to (next_of a i) b ∷ [])
  Asgn-load : {p q a : ℕ} {i : Selector} {b : Adr} → h.pval (pointer_var q) ≡ defined (cell a) → h.pval (next_of a i) ≡ defined b → Rule h freed (Load p q i) (pointer_to (pointer_var p) b ∷ [])
  Asgn-copy : {p q : ℕ} {b : Adr} → h.pval (pointer_var q) ≡ defined b → Rule h freed (Copy p q) (pointer_to (pointer_var p) b ∷ [])
  Asgn-read : {x p a d : ℕ} → h.pval (pointer_var p) ≡ defined (cell a) → h.dval (data_of a) ≡ defined d → Rule h freed (ReadData x p) (data_to (data_var x) d ∷ [])
  Asgn-write : {p x a d : ℕ} → h.pval (pointer_var p) ≡ defined (cell a) → h.dval (data_var x) ≡ defined d → Rule h freed (WriteData p x) (data_to (data_of a) d ∷ [])
  Asgn-compute : {x : ℕ} {op : List ℕ → ℕ} {xs : List ℕ} (vs : List ℕ) → Values h xs vs → Rule h freed (Compute x op xs) (data_to (data_var x) (op vs) ∷ [])
  Asrt : {c : Cond} → passes true h c ≡ true → Rule h freed (Assert c) []
  Free-rule : {p : ℕ} → Rule h freed (Free p) []
  Malloc1 : {p a d : ℕ} → (InUse h a → ⊥)
      → Rule h freed (Malloc p) (pointer_to (pointer_var p) (cell a) ∷ data_to (data_of a) d ∷ pointer_to (next_of a next₀) seg ∷ pointer_to (next_of a next₁) seg ∷ [])
  Malloc2 : {p a : ℕ} → freed a ≡ true → Rule h freed (Malloc p) (pointer_to (pointer_var p) (cell a) ∷ [])

-- τ is a computation of the memory-managed semantics. The program is left out: a log says which thread executes which command.
abbrev pub MemoryManaged : Computation → Type 0
MemoryManaged (initial d) = Unit {0}
MemoryManaged (then τ act) = MemoryManaged τ × Rule (heap_of τ) (freed_in τ) act.command act.up

-- ---- 3, Lemma 2: freed_τ ∩ adr(h_τ restricted to valid_τ) = ∅
-- adr(h restricted to P): the restriction keeps the expressions of P, and the data of the addresses to which one of them points
abbrev pub InRestriction : Heap → (PExp → Bool) → ℕ → Type 0
InRestriction h P a = ((i : Selector) × (P (next_of a i) ≡ true) × Defined (h.pval (next_of a i))) ⊎ ((e : PExp) × (P e ≡ true) × (h.pval e ≡ defined (cell a)))

abbrev pub Lemma2 : Computation → Type 0
Lemma2 τ = (a : ℕ) → freed_in τ a ≡ true → InRestriction (heap_of τ) (valid_in τ) a → ⊥

-- ---- 3, Definitions 3 and 4: two computations whose heaps are isomorphic on the valid pointers
-- an address mapping keeps seg and every variable; it maps a.next and a.data as it maps a
abbrev pub map_adr : (ℕ → ℕ) → Adr → Adr
map_adr f seg = seg
map_adr f (cell a) = cell (f a)

abbrev pub map_p_exp : (ℕ → ℕ) → PExp → PExp
map_p_exp f (pointer_var p) = pointer_var p
map_p_exp f (next_of a i) = next_of (f a) i

abbrev pub map_d_exp : (ℕ → ℕ) → DExp → DExp
map_d_exp f (data_var x) = data_var x
map_d_exp f (data_of a) = data_of (f a)

-- the values that h restricted to P has
abbrev pub HasAdr : Heap → (PExp → Bool) → PExp → Adr → Type 0
HasAdr h P e a = (P e ≡ true) × (h.pval e ≡ defined a)

abbrev pub HasData : Heap → (PExp → Bool) → DExp → ℕ → Type 0
HasData h P (data_var x) d = h.dval (data_var x) ≡ defined d
HasData h P (data_of a) d = ((e : PExp) × HasAdr h P e (cell a)) × (h.dval (data_of a) ≡ defined d)

-- h restricted to P and k restricted to Q: an address mapping that is bijective on the addresses in use, and of which the induced mapping
-- of expressions is bijective (one to one it is by the addresses) and takes values to values
pub record Isomorphic (h : Heap) (P : PExp → Bool) (k : Heap) (Q : PExp → Bool) : Type 0 where
  pub iso : ℕ → ℕ
  pub into : (a : ℕ) → InRestriction h P a → InRestriction k Q (iso a)
  pub one : (a b : ℕ) → InRestriction h P a → InRestriction h P b → iso a ≡ iso b → a ≡ b
  pub onto : (b : ℕ) → InRestriction k Q b → (a : ℕ) × InRestriction h P a × (iso a ≡ b)
  pub pointers : (e : PExp) (a : Adr) → HasAdr h P e a → HasAdr k Q (map_p_exp iso e) (map_adr iso a)
  pub all_pointers : (e : PExp) (b : Adr) → HasAdr k Q e b → (c : PExp) × (a : Adr) × HasAdr h P c a × (map_p_exp iso c ≡ e)
  pub numbers : (e : DExp) (d : ℕ) → HasData h P e d → HasData k Q (map_d_exp iso e) d
  pub all_numbers : (e : DExp) (d : ℕ) → HasData k Q e d → (c : DExp) × HasData h P c d × (map_d_exp iso c ≡ e)

-- τ ≈ σ, of whose commands nothing is said here
abbrev pub HeapEquivalent : Computation → Computation → Type 0
HeapEquivalent τ σ = Isomorphic (heap_of τ) (valid_in τ) (heap_of σ) (valid_in σ)
