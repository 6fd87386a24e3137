-- Laws of tables of any rule: the largest and the least that pass a test, entries by a rule, a table while it is filled, and what a maker leaves. Assumes nothing.
use mathlib.Core.Path.{◌≡◌, refl, sym, ap, ◌∙◌}
use Prim.Native.Nat.{ℕ, zero, suc, ◌+◌, ◌-◌, ◌≤◌, ◌<◌}
use native.Mathlib.Omega.{arith}
use mathlib.Core.List.{List, [], ◌++◌, append_assoc, append-nil}
use mathlib.Core.Bool.{Bool, true, false, cond, ◌||◌, true≢false}
use lib.ListN.{length, get_or, take, drop, set, replicate, take-append-drop, length-append, length-drop, length-set, length-replicate, drop_of_length-le, get_or-append, get_or-replicate}
use lib.Seq.{length-take-le, get_or-take, get_or-append-add, ext_get_or, get_or-set_same, get_or-set_other, drop-set-lt, drop-drop, drop_at, take_at, take_all}
use borrow.Rule.Slice.PartMut.{put_mid, mid_of}
use lib.Dec.{eqb, ltb}
use borrow.Author.Tests.{eqb-true, eqb-false, ltb-true, ltb-false, le-ltb, lt-ltb}
use Rattle.matching.specs.Received.{received}
use Rattle.matching.proofs.CaseAnalysis.{by-test, both, at_same}
use Rattle.matching.proofs.Received.{received-front}
use Rattle.tables.specs.Tables.{largest, least, every, tabulate, made, Entries}

-- ---- the largest that passes a test

pub largest-le : (n : ℕ) (test : ℕ → Bool) → largest n test ≤ n
unfolding largest
largest-le zero test = omega arith
largest-le (suc n) test = by-test (λ t. cond t (suc n) (largest n test) ≤ suc n) (test n) (λ _. omega arith) (λ _. omega (arith, largest-le n test))

-- none above it passes
pub largest-none : (n : ℕ) (test : ℕ → Bool) (k : ℕ) → largest n test ≤ k → k < n → test k ≡ false
unfolding largest
largest-none zero test k h l = absurd (omega arith)
largest-none (suc n) test k h l =
    by-test (λ t. test n ≡ t → cond t (suc n) (largest n test) ≤ k → test k ≡ false) (test n)
    (λ _ _ h. absurd (omega arith))
    (λ _ e h. by-test (λ _. test k ≡ false) (eqb k n) (λ d. rw (eqb-true k n d) e) (λ d. largest-none n test k h (omega (arith, eqb-false k n d))))
    refl h

-- it passes itself
pub largest-holds : (n : ℕ) (test : ℕ → Bool) → 1 ≤ largest n test → test (largest n test - 1) ≡ true
unfolding largest
largest-holds zero test h = absurd (omega arith)
largest-holds (suc n) test h =
    by-test (λ t. test n ≡ t → 1 ≤ cond t (suc n) (largest n test) → test (cond t (suc n) (largest n test) - 1) ≡ true) (test n)
    (λ _ e _. let z : suc n - 1 ≡ n = omega arith in rw z e) (λ _ e h. largest-holds n test h) refl h

-- there is one largest: what passes with none above it that does
pub largest-is : (n : ℕ) (test : ℕ → Bool) (b : ℕ) → b ≤ n → (1 ≤ b → test (b - 1) ≡ true) → ((k : ℕ) → b ≤ k → k < n → test k ≡ true → ⊥) → largest n test ≡ b
largest-is n test b h fit none =
    let a : ℕ = largest n test in
    by-test (λ _. a ≡ b) (ltb a b)
    (λ t. let l : a < b = ltb-true a b t in absurd (true≢false (sym (fit (omega arith)) ∙ largest-none n test (b - 1) (omega arith) (omega arith))))
    (λ t.
    let l : b ≤ a = ltb-false a b t in
    by-test (λ _. a ≡ b) (ltb b a)
    (λ s. let g : b < a = ltb-true b a s in absurd (none (a - 1) (omega arith) (omega (arith, largest-le n test)) (largest-holds n test (omega arith))))
    (λ s. omega (arith, ltb-false b a s)))

-- ---- the least number from k on that passes a test, and every number after j

pub least-low : (n k : ℕ) (test : ℕ → Bool) → k ≤ least n k test
unfolding least
least-low zero k test = omega arith
least-low (suc n) k test = by-test (λ t. k ≤ cond t k (least n (suc k) test)) (test k) (λ _. omega arith) (λ _. omega (arith, least-low n (suc k) test))

pub least-most : (n k : ℕ) (test : ℕ → Bool) → least n k test ≤ k + n
unfolding least
least-most zero k test = omega arith
least-most (suc n) k test = by-test (λ t. cond t k (least n (suc k) test) ≤ k + suc n) (test k) (λ _. omega arith) (λ _. omega (arith, least-most n (suc k) test))

-- none before it passes
pub least-none : (n k : ℕ) (test : ℕ → Bool) (c : ℕ) → k ≤ c → c < least n k test → test c ≡ true → ⊥
unfolding least
least-none zero k test c h l e = omega arith
least-none (suc n) k test c h l e =
    by-test (λ t. test k ≡ t → c < cond t k (least n (suc k) test) → ⊥) (test k)
    (λ _ _ l. omega arith)
    (λ _ f l. by-test (λ _. ⊥) (eqb c k) (λ d. true≢false (sym e ∙ rw (eqb-true c k d) f)) (λ d. least-none n (suc k) test c (omega (arith, eqb-false c k d)) l e))
    refl l

-- it passes itself, where it is one of those tried
pub least-holds : (n k : ℕ) (test : ℕ → Bool) → least n k test < k + n → test (least n k test) ≡ true
unfolding least
least-holds zero k test l = absurd (omega arith)
least-holds (suc n) k test l =
    by-test (λ t. test k ≡ t → cond t k (least n (suc k) test) < k + suc n → test (cond t k (least n (suc k) test)) ≡ true) (test k)
    (λ _ f _. f) (λ _ f l. least-holds n (suc k) test (omega arith)) refl l

-- there is one least: what passes, or is past those tried, with none before it that does
pub least-is : (n k : ℕ) (test : ℕ → Bool) (b : ℕ) → k ≤ b → b ≤ k + n → (b < k + n → test b ≡ true) → ((c : ℕ) → k ≤ c → c < b → test c ≡ true → ⊥) → least n k test ≡ b
least-is n k test b low high fit none =
    let a : ℕ = least n k test in
    by-test (λ _. a ≡ b) (ltb a b)
    (λ t. let l : a < b = ltb-true a b t in absurd (none a (least-low n k test) l (least-holds n k test (omega arith))))
    (λ t.
    let l : b ≤ a = ltb-false a b t in
    by-test (λ _. a ≡ b) (ltb b a)
    (λ s. let g : b < a = ltb-true b a s in absurd (least-none n k test b low g (fit (omega (arith, least-most n k test)))))
    (λ s. omega (arith, ltb-false b a s)))

pub every-all : (n j : ℕ) (test : ℕ → Bool) → every n j test ≡ true → (i : ℕ) → j < i → i ≤ j + n → test i ≡ true
unfolding every
every-all zero j test e i h l = absurd (omega arith)
every-all (suc n) j test e i h l =
    by-test (λ _. test i ≡ true) (eqb i (suc j))
    (λ d. rw (eqb-true i (suc j) d) (both (test (suc j)) (every n (suc j) test) e).0)
    (λ d. every-all n (suc j) test (both (test (suc j)) (every n (suc j) test) e).1 i (omega (arith, eqb-false i (suc j) d)) (omega arith))

pub all-every : (n j : ℕ) (test : ℕ → Bool) → ((i : ℕ) → j < i → i ≤ j + n → test i ≡ true) → every n j test ≡ true
unfolding every
all-every zero j test f = refl
all-every (suc n) j test f = rw (f (suc j) (omega arith) (omega arith)) (all-every n (suc j) test (λ i h l. f i (omega arith) (omega arith)))

-- ---- entries by a rule

pub length-tabulate : (n : ℕ) (rule : ℕ → ℕ) → length (tabulate n rule) ≡ n
unfolding tabulate
length-tabulate zero rule = refl
length-tabulate (suc n) rule = ap suc (length-tabulate n (λ i. rule (suc i)))

pub get_d_tabulate : (n : ℕ) (rule : ℕ → ℕ) (i : ℕ) → i < n → get_or (tabulate n rule) i 0 ≡ rule i
unfolding tabulate
get_d_tabulate zero rule i h = absurd (omega arith)
get_d_tabulate (suc n) rule zero h = refl
get_d_tabulate (suc n) rule (suc i) h = get_d_tabulate n (λ j. rule (suc j)) i (omega arith)

-- an entry of a table that stands at the front
pub tabulate-at : (n : ℕ) (rule : ℕ → ℕ) (more : List ℕ) (i : ℕ) → i < n → get_or (tabulate n rule ++ more) i 0 ≡ rule i
tabulate-at n rule more i h = get_or-append (tabulate n rule) more 0 i (omega (arith, length-tabulate n rule)) ∙ get_d_tabulate n rule i h

-- a list is a table by its rule where each of its entries is
pub tabulate-is : (n : ℕ) (rule : ℕ → ℕ) (l : List ℕ) → length l ≡ n → ((i : ℕ) → i < n → get_or l i 0 ≡ rule i) → l ≡ tabulate n rule
tabulate-is n rule l long entry = ext_get_or 0 l (tabulate n rule) (long ∙ sym (length-tabulate n rule)) (λ i h. let h' : i < n = omega arith in entry i h' ∙ sym (get_d_tabulate n rule i h'))

-- one rule after another: the first a entries by f, and those after them by g
abbrev pub then : ℕ → (ℕ → ℕ) → (ℕ → ℕ) → ℕ → ℕ
then a f g i = cond (ltb i a) (f i) (g (i - a))

pub then-first : (a : ℕ) (f g : ℕ → ℕ) (i : ℕ) → i < a → f i ≡ then a f g i
then-first a f g i h = rw (lt-ltb i a h)

pub then_next : (a : ℕ) (f g : ℕ → ℕ) (i : ℕ) → g i ≡ then a f g (a + i)
then_next a f g i = let e : a + i - a ≡ i = omega arith in rw (le-ltb (a + i) a (omega arith), e)

pub tabulate-then : (a b : ℕ) (f g : ℕ → ℕ) → tabulate (a + b) (then a f g) ≡ tabulate a f ++ tabulate b g
tabulate-then a b f g =
    let front : length (tabulate a f) ≡ a = length-tabulate a f in
    sym
    (tabulate-is (a + b) (then a f g) (tabulate a f ++ tabulate b g) (length-append (tabulate a f) (tabulate b g) ∙ omega (arith, length-tabulate b g))
    (λ i h.
    by-test (λ t. get_or (tabulate a f ++ tabulate b g) i 0 ≡ cond t (f i) (g (i - a))) (ltb i a)
    (λ t. tabulate-at a f (tabulate b g) i (ltb-true i a t))
    (λ t.
    let low : a ≤ i = ltb-false i a t in
    at_same (tabulate a f ++ tabulate b g) {j = length (tabulate a f) + (i - a)} (omega arith) ∙ get_or-append-add (tabulate a f) (tabulate b g) (i - a) 0 ∙ get_d_tabulate b g (i - a) (omega arith))))

-- ---- a lent table, which was table₀, while it is filled: the first n entries follow a rule, and what comes after them is as it was

pub record Ruled (n : ℕ) (rule : ℕ → ℕ) (table₀ table : List ℕ) : Type 0 where
  pub entry : (c : ℕ) → c < n → get_or table c 0 ≡ rule c
  pub kept : drop n table ≡ drop n table₀
  pub room : n ≤ length table
  pub long : length table ≡ length table₀

pub ruled-is : {n : ℕ} {rule : ℕ → ℕ} {table₀ table : List ℕ} → Ruled n rule table₀ table → table ≡ tabulate n rule ++ drop n table₀
ruled-is {n} {rule} {table₀} {table} r =
    sym (take-append-drop n table)
    ∙ ap (λ (l : List ℕ). l ++ drop n table)
    (tabulate-is n rule (take n table) (length-take-le n table r.room) (λ i h. get_or-take n table i 0 h ∙ r.entry i h))
    ∙ ap (λ (l : List ℕ). tabulate n rule ++ l) r.kept

-- no entry is set yet
pub ruled-none : (rule : ℕ → ℕ) (table : List ℕ) → Ruled 0 rule table table
ruled-none rule table = record { entry = λ c h. absurd (omega arith); kept = refl; room = omega arith; long = refl }

-- the first n follow it
pub ruled-front : (n : ℕ) (rule : ℕ → ℕ) (table : List ℕ) → n ≤ length table → Ruled n rule table (tabulate n rule ++ drop n table)
ruled-front n rule table h =
    let size : length (tabulate n rule) ≡ n = length-tabulate n rule in
    record {
      entry = λ c l. tabulate-at n rule (drop n table) c l;
      kept = drop_at (tabulate n rule) (drop n table) n size;
      room = omega (arith, length-append (tabulate n rule) (drop n table));
      long = length-append (tabulate n rule) (drop n table) ∙ omega (arith, length-drop n table);
    }

-- and are one value
pub ruled-all : (n v : ℕ) (table : List ℕ) → n ≤ length table → Ruled n (λ _. v) table (replicate n v ++ drop n table)
ruled-all n v table h = rw (tabulate-is n (λ _. v) (replicate n v) (length-replicate n v) (λ i l. get_or-replicate n i v 0 l)) (ruled-front n (λ _. v) table h)

-- the next entry is set
pub ruled-next : {n : ℕ} {rule : ℕ → ℕ} {table₀ table : List ℕ} → n < length table₀ → Ruled n rule table₀ table → (v : ℕ) → v ≡ rule n → Ruled (suc n) rule table₀ (set table n v)
ruled-next {n} {rule} {table₀} {table} h r v e =
    record {
      entry = λ c l.
          by-test (λ _. get_or (set table n v) c 0 ≡ rule c) (eqb c n)
          (λ d. rw (eqb-true c n d) (get_or-set_same table n v 0 (omega (arith, r.long)) ∙ e))
          (λ d. get_or-set_other table n c v 0 (eqb-false c n d) ∙ r.entry c (omega (arith, eqb-false c n d)));
      kept = drop-set-lt (suc n) table n v (omega arith) ∙ after table ∙ ap (drop 1) r.kept ∙ sym (after table₀);
      room = omega (arith, r.long, length-set table n v);
      long = length-set table n v ∙ r.long;
    }
  where
    after : (l : List ℕ) → drop (suc n) l ≡ drop 1 (drop n l)
    after l = let e : n + 1 ≡ suc n = omega arith in sym (drop-drop 1 n l ∙ ap (λ (i : ℕ). drop i l) e)

-- any entry is set: the rule changes there alone
pub ruled-set : {n : ℕ} {f : ℕ → ℕ} {table₀ table : List ℕ} (g : ℕ → ℕ) (x v : ℕ) → x < n → ((c : ℕ) → g c ≡ cond (eqb x c) v (f c)) → Ruled n f table₀ table → Ruled n g table₀ (set table x v)
ruled-set {n} {f} {table₀} {table} g x v h change r =
    record {
      entry = λ c l.
          by-test (λ t. eqb x c ≡ t → get_or (set table x v) c 0 ≡ cond t v (f c)) (eqb x c)
          (λ e _. rw (← eqb-true x c e) (get_or-set_same table x v 0 (omega (arith, r.room))))
          (λ e _. get_or-set_other table x c v 0 (λ d. eqb-false x c e (sym d)) ∙ r.entry c l) refl
          ∙ sym (change c);
      kept = drop-set-lt n table x v h ∙ r.kept;
      room = omega (arith, r.room, length-set table x v);
      long = length-set table x v ∙ r.long;
    }

-- the rule by another name
pub ruled-as : {n : ℕ} {f g : ℕ → ℕ} {table₀ table : List ℕ} → ((c : ℕ) → c < n → f c ≡ g c) → Ruled n f table₀ table → Ruled n g table₀ table
ruled-as e r = record { entry = λ c h. r.entry c h ∙ e c h; kept = r.kept; room = r.room; long = r.long }

-- a second turn begins with the table as the first left it
pub ruled-anew : {n : ℕ} {f : ℕ → ℕ} {table₀ table : List ℕ} → Ruled n f table₀ table → Ruled n f table table
ruled-anew r = record { entry = r.entry; kept = refl; room = r.room; long = refl }

-- and both turns together
pub ruled-since : {n : ℕ} {f g : ℕ → ℕ} {table₀ table₁ table : List ℕ} → Ruled n f table₀ table₁ → Ruled n g table₁ table → Ruled n g table₀ table
ruled-since r₁ r = record { entry = r.entry; kept = r.kept ∙ r₁.kept; room = r.room; long = r.long ∙ r₁.long }

-- ---- what a maker leaves: where the table is shorter than the entries, or the pattern is too long, all as before

pub made-kept : (most : ℕ) (entries table : List ℕ) → (length entries ≤ length table → most ≤ 65535 → ⊥) → table ≡ made most entries table
unfolding made
made-kept most entries table none =
    by-test (λ t. table ≡ cond (t || ltb 65535 most) table (received table entries)) (ltb (length table) (length entries)) (λ _. refl)
    (λ t. by-test (λ u. table ≡ cond u table (received table entries)) (ltb 65535 most) (λ _. refl) (λ u. absurd (none (ltb-false _ _ t) (ltb-false _ _ u))))

pub made-is : (most : ℕ) (entries table : List ℕ) → length entries ≤ length table → most ≤ 65535 → made most entries table ≡ entries ++ drop (length entries) table
unfolding made
made-is most entries table h k = rw (le-ltb (length table) (length entries) h, le-ltb 65535 most k) (received-front table entries h)

-- the same for n entries by a rule
module _ (most n : ℕ) (rule : ℕ → ℕ) (table : List ℕ) where
  pub made-kept_by : (n ≤ length table → most ≤ 65535 → ⊥) → table ≡ made most (tabulate n rule) table
  made-kept_by none = made-kept most (tabulate n rule) table (λ h k. none (omega (arith, length-tabulate n rule)) k)

  pub made_by : n ≤ length table → most ≤ 65535 → made most (tabulate n rule) table ≡ tabulate n rule ++ drop n table
  made_by h k = made-is most (tabulate n rule) table (omega (arith, length-tabulate n rule)) k ∙ ap (λ i. tabulate n rule ++ drop i table) (length-tabulate n rule)

-- a table whose first n entries follow the rule is what the maker leaves
pub ruled-made : (most : ℕ) {n : ℕ} {rule : ℕ → ℕ} {table₀ table : List ℕ} → most ≤ 65535 → Ruled n rule table₀ table → table ≡ made most (tabulate n rule) table₀
ruled-made most {n} {rule} {table₀} h r = ruled-is r ∙ sym (made_by most n rule table₀ (omega (arith, r.room, r.long)) h)

-- and back, where the table has room and no entry is above 16 bits
pub made-ruled : (most : ℕ) {n : ℕ} {rule : ℕ → ℕ} {table₀ table : List ℕ} → n ≤ length table₀ → most ≤ 65535 → table ≡ made most (tabulate n rule) table₀ → Ruled n rule table₀ table
made-ruled most {n} {rule} {table₀} h k e = rw (e ∙ made_by most n rule table₀ h k) (ruled-front n rule table₀ h)

-- ---- what an engine knows of a table that stands in its scratch (`Entries`)

-- a table at the front
pub front-entries : (n : ℕ) (rule : ℕ → ℕ) (rest : List ℕ) {table : List ℕ} → table ≡ tabulate n rule ++ rest → Entries 0 n rule table
front-entries n rule rest e =
    record {
      room = omega (arith, ap length e, length-append (tabulate n rule) rest, length-tabulate n rule);
      entry = λ i h {p} is. ap (λ (t : List ℕ). get_or t p 0) e ∙ at_same (tabulate n rule ++ rest) (omega arith) ∙ tabulate-at n rule rest i h;
    }

-- a table after a entries of any kind
pub later-entries : (front : List ℕ) (a n : ℕ) (rule : ℕ → ℕ) (rest : List ℕ) {table : List ℕ} → length front ≡ a → table ≡ front ++ (tabulate n rule ++ rest) → Entries a n rule table
later-entries front a n rule rest size e =
    record {
      room = omega (arith, ap length e, length-append front (tabulate n rule ++ rest), length-append (tabulate n rule) rest, length-tabulate n rule);
      entry = λ i h {p} is.
          ap (λ (t : List ℕ). get_or t p 0) e ∙ at_same (front ++ (tabulate n rule ++ rest)) {j = length front + i} (omega arith)
          ∙ get_or-append-add front (tabulate n rule ++ rest) i 0 ∙ tabulate-at n rule rest i h;
    }

-- a maker that had room, with no entry above 16 bits, filled the front: what it left, and each entry by its rule
pub record Filled (n : ℕ) (rule : ℕ → ℕ) (table table' : List ℕ) : Type 0 where
  pub left : table' ≡ received table (tabulate n rule)
  pub entries : Entries 0 n rule table'

pub filled : (most n : ℕ) (rule : ℕ → ℕ) {table table' : List ℕ} → n ≤ length table → most ≤ 65535 → table' ≡ made most (tabulate n rule) table → Filled n rule table table'
filled most n rule {table} h k e =
    let size : length (tabulate n rule) ≡ n = length-tabulate n rule in
    let front = e ∙ made_by most n rule table h k in
    record { left = e ∙ made-is most (tabulate n rule) table (omega arith) k ∙ sym (received-front table (tabulate n rule) (omega arith)); entries = front-entries n rule (drop n table) front }

-- an entry as code reads it: by its rule, and within bounds
pub record Reads (entry rule low high : ℕ) : Type 0 where
  pub is : entry ≡ rule
  pub least : low ≤ entry
  pub most : entry ≤ high

-- ---- two tables in one scratch: the first at the front, the second in the part from there on

module _ (a b : ℕ) (f g : ℕ → ℕ) (rest : List ℕ) where
  both-grouped : (tabulate a f ++ tabulate b g) ++ rest ≡ tabulate a f ++ (tabulate b g ++ rest)
  both-grouped = append_assoc (tabulate a f) (tabulate b g) rest

  pub first-entries : {table : List ℕ} → table ≡ (tabulate a f ++ tabulate b g) ++ rest → Entries 0 a f table
  first-entries e = front-entries a f (tabulate b g ++ rest) (e ∙ both-grouped)

  pub second-entries : {table : List ℕ} → table ≡ (tabulate a f ++ tabulate b g) ++ rest → Entries a b g table
  second-entries e = later-entries (tabulate a f) a b g rest (length-tabulate a f) (e ∙ both-grouped)

-- so a scratch that received both has them at its front; whatever the second are
pub rest-received : (a : ℕ) (f : ℕ → ℕ) (entries scratch : List ℕ) → a + length entries ≤ length scratch
    → received scratch (tabulate a f ++ entries) ≡ (tabulate a f ++ entries) ++ drop (a + length entries) scratch
rest-received a f entries scratch h =
    let size : length (tabulate a f ++ entries) ≡ a + length entries = length-append (tabulate a f) entries ∙ omega (arith, length-tabulate a f) in
    received-front scratch (tabulate a f ++ entries) (omega arith) ∙ ap (λ (n : ℕ). (tabulate a f ++ entries) ++ drop n scratch) size

pub both-received : (a b : ℕ) (f g : ℕ → ℕ) (scratch : List ℕ) → a + b ≤ length scratch
    → received scratch (tabulate a f ++ tabulate b g) ≡ (tabulate a f ++ tabulate b g) ++ drop (a + b) scratch
both-received a b f g scratch h =
    let size : length (tabulate b g) ≡ b = length-tabulate b g in
    rest-received a f (tabulate b g) scratch (omega arith) ∙ ap (λ (n : ℕ). (tabulate a f ++ tabulate b g) ++ drop (a + n) scratch) size

-- the second maker is lent the part from a on of a scratch whose front the first maker has made
pub made-rest : (most₁ most₂ a : ℕ) (f : ℕ → ℕ) (entries table : List ℕ) {table₁ part : List ℕ} → a + length entries ≤ length table → most₁ ≤ 65535 → most₂ ≤ 65535
    → table₁ ≡ made most₁ (tabulate a f) table → part ≡ made most₂ entries (mid_of a (length table₁ - a) table₁)
    → put_mid a (length table₁ - a) table₁ part ≡ (tabulate a f ++ entries) ++ drop (a + length entries) table
made-rest most₁ most₂ a f entries table {table₁} {part} room small₁ small₂ e₁ e₂ =
    let is : table₁ ≡ tabulate a f ++ drop a table = e₁ ∙ made_by most₁ a f table (omega arith) small₁ in
    let size : length (tabulate a f) ≡ a = length-tabulate a f in
    let front : take a table₁ ≡ tabulate a f = ap (take a) is ∙ take_at (tabulate a f) (drop a table) a size in
    let back : drop a table₁ ≡ drop a table = ap (drop a) is ∙ drop_at (tabulate a f) (drop a table) a size in
    let whole : mid_of a (length table₁ - a) table₁ ≡ drop a table = take_all (length table₁ - a) (drop a table₁) (omega (arith, length-drop a table₁)) ∙ back in
    let second : part ≡ entries ++ drop (a + length entries) table =
    e₂ ∙ ap (made most₂ entries) whole ∙ made-is most₂ entries (drop a table) (omega (arith, length-drop a table)) small₂ ∙ ap (λ (l : List ℕ). entries ++ l) (drop-drop (length entries) a table) in
    let none : drop (length table₁ - a) (drop a table₁) ≡ [] = drop_of_length-le (drop a table₁) {i = length table₁ - a} (omega (arith, length-drop a table₁)) in
    rw (front, none, second) (rw append-nil (sym (append_assoc (tabulate a f) entries (drop (a + length entries) table))))

pub made-part : (most₁ most₂ a b : ℕ) (f g : ℕ → ℕ) (table : List ℕ) {table₁ part : List ℕ} → a + b ≤ length table → most₁ ≤ 65535 → most₂ ≤ 65535
    → table₁ ≡ made most₁ (tabulate a f) table → part ≡ made most₂ (tabulate b g) (mid_of a (length table₁ - a) table₁)
    → put_mid a (length table₁ - a) table₁ part ≡ (tabulate a f ++ tabulate b g) ++ drop (a + b) table
made-part most₁ most₂ a b f g table room small₁ small₂ e₁ e₂ =
    let size : length (tabulate b g) ≡ b = length-tabulate b g in
    made-rest most₁ most₂ a f (tabulate b g) table (omega arith) small₁ small₂ e₁ e₂ ∙ ap (λ (n : ℕ). (tabulate a f ++ tabulate b g) ++ drop (a + n) table) size

-- a maker that is lent just the front leaves what it would leave of the whole
pub made-front : (most a : ℕ) (f : ℕ → ℕ) (table : List ℕ) {part : List ℕ} → a ≤ length table → most ≤ 65535 → part ≡ made most (tabulate a f) (take a table)
    → part ++ drop a table ≡ made most (tabulate a f) table
made-front most a f table {part} room small e =
    let size : length (take a table) ≡ a = length-take-le a table room in
    let is : part ≡ tabulate a f =
    e ∙ made_by most a f (take a table) (omega arith) small
    ∙ ap (λ (l : List ℕ). tabulate a f ++ l) (drop_of_length-le (take a table) {i = a} (omega arith)) ∙ append-nil (tabulate a f) in
    ap (λ (l : List ℕ). l ++ drop a table) is ∙ sym (made_by most a f table room small)
