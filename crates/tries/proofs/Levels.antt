-- The laws of the trie that grows level by level: one phrase's next letter, the next level, and the whole. Assumes nothing.
use mathlib.Core.Path.{◌≡◌, refl, sym, ap, ◌∙◌}
use Prim.Native.Nat.{ℕ, zero, suc, ◌+◌, ◌-◌, ◌*◌, ◌≤◌, ◌<◌}
use native.Mathlib.Omega.{arith}
use native.Mathlib.Numerals.{add-one}
use mathlib.Core.Bool.{true, false, cond, ◌||◌, false≢true}
use mathlib.Core.List.{List, [], ◌∷◌, ◌++◌, append-nil}
use lib.ListN.{length, get_or, take, drop, set, replicate, get_or-replicate, length-set, length-take, length-drop}
use lib.Seq.{sets, length-sets, take-append-le, take-add, take_all, length-take-le, get_or-set_same, get_or-set_other, set-get_or}
use lib.Dec.{eqb, ltb}
use borrow.Author.Tests.{ltb-true, ltb-false, lt-ltb, le-ltb, eqb-true, eqb-false, eq-eqb, ne_eqb}
use Rattle.matching.proofs.CaseAnalysis.{by-test}
use Rattle.matching.proofs.Occurrences.{same_true, eq-same}
use Rattle.phrases.specs.States.{starts_with, known}
use Rattle.tries.specs.Tables.{letter_at, name, Plain, Trie, Extended, Room}
use Rattle.phrases.specs.Phrases.{letters}
use Rattle.tries.specs.Group.{depth, left, Growing, Grown}
use Rattle.phrases.proofs.States.{known_at}
use Rattle.tries.proofs.Growth.{newest, extended_none, no-letter, sets-inside}
use Rattle.tries.proofs.Tries.{snoc-length}

-- ---- the letters left

pub left-all : (ps : List (List ℕ)) → left 0 0 ps ≡ letters ps
unfolding left letters
left-all [] = refl
left-all (p ∷ ps) = omega (arith, left-all ps)

pub left-level : (d : ℕ) (ps : List (List ℕ)) → left d (length ps) ps ≡ left (suc d) 0 ps
unfolding left
left-level d [] = refl
left-level d (p ∷ ps) = ap (λ n. (length p - suc d) + n) (left-level d ps)

pub left-next : (d i : ℕ) (ps : List (List ℕ)) → i < length ps → left d i ps ≡ left d (suc i) ps + length (take 1 (drop d (get_or ps i [])))
unfolding left
left-next d i [] h = absurd (omega arith)
left-next d zero (p ∷ ps) h = omega (arith, length-take 1 (drop d p), length-drop d p, none ps)
  where
    none : (ps : List (List ℕ)) → left d 0 ps ≡ left d 0 ps
    none ps = refl
left-next d (suc i) (p ∷ ps) h = omega (arith, left-next d i ps (omega arith))

-- ---- one phrase's next letter

depth-here : (d i k : ℕ) → k ≡ i → depth d (suc i) k ≡ suc d
depth-here d i k e = rw (lt-ltb k (suc i) (omega arith))

depth-other : (d i k : ℕ) → (k ≡ i → ⊥) → depth d (suc i) k ≡ depth d i k
depth-other d i k n =
    by-test (λ b. cond (ltb k (suc i)) (suc d) d ≡ cond b (suc d) d) (ltb k i)
    (λ e. rw (lt-ltb k (suc i) (omega (arith, ltb-true k i e)))) (λ e. rw (le-ltb k (suc i) (omega (arith, ltb-false k i e))))

take_own : (j : ℕ) (p : List ℕ) → take (length (take j p)) p ≡ take j p
take_own j p =
    by-test (λ _. take (length (take j p)) p ≡ take j p) (ltb (length p) j)
    (λ b. let k : length p < j = ltb-true _ _ b in take_all (length (take j p)) p (omega (arith, length-take j p)) ∙ sym (take_all j p (omega arith)))
    (λ b. let k : j ≤ length p = ltb-false _ _ b in ap (λ x. take x p) (length-take-le j p k))

-- what a phrase begins with is a prefix
known-take : (ps : List (List ℕ)) (k j : ℕ) → k < length ps → known ps (take j (get_or ps k [])) ≡ true
unfolding starts_with
known-take ps k j h = known_at ps (take j (get_or ps k [])) k h (eq-same (take_own j (get_or ps k [])))

module _ {ps : List (List ℕ)} {t at : List ℕ} {n d i : ℕ} (g : Growing ps t at n d i) (h : i < length ps) where
  cs : List ℕ
  cs = take 1 (drop d (get_or ps i []))

  fewer : left d i ps ≡ left d (suc i) ps + length cs
  unfolding cs
  fewer = left-next d i ps h

  pub next-room : Room t n (get_or at i 0) (take 1 (drop d (get_or ps i [])))
  unfolding cs
  next-room =
      record {
        names = g.names;
        plain = g.plain;
        count = g.count;
        inside = g.inside i h;
        room = λ some. let f : left d i ps ≡ left d (suc i) ps + length cs = fewer in (omega (arith, g.room, g.long), omega (arith, g.room, g.small));
      }

  -- the state that phrase i is at with its next letter, which the letter alone can make new
  module _ {t' : List ℕ} {r : ℕ} (e : Extended g.names t t' (get_or at i 0) (take 1 (drop d (get_or ps i []))) r) where
    size : length e.names ≡ cond (eqb r n) (suc n) n
    size = e.count ∙ ap (λ m. cond (eqb r m) (suc m) m) g.count

    kept : (y : ℕ) → y < n → name e.names y ≡ name g.names y
    kept y l = e.kept y (omega (arith, g.count))

    named : name e.names r ≡ take (suc d) (get_or ps i [])
    named =
        let none : ltb i i ≡ false = le-ltb i i (omega arith) in
        e.is
        ∙ ap (λ l. l ++ take 1 (drop d (get_or ps i []))) (g.here i h ∙ ap (λ b. take (cond b (suc d) d) (get_or ps i [])) none)
        ∙ sym (take-add d 1 (get_or ps i [])) ∙ ap (λ j. take j (get_or ps i [])) (add-one d)

    -- a state is an old one, or r where that is new
    either-old : (Q : ℕ → Type 0) (y : ℕ) → y < length e.names → (y < n → Q y) → (r ≡ n → Q r) → Q y
    either-old Q y l old new =
        by-test (λ b. eqb r n ≡ b → y < cond b (suc n) n → Q y) (eqb r n)
        (λ _ f k. let z : r ≡ n = eqb-true r n f in newest Q n y k old (rw z at (new z)))
        (λ _ _ k. old k)
        refl (rw size at l)

    -- where it is new the phrase has that letter
    grew : r ≡ n → d < length (get_or ps i [])
    grew z =
        by-test (λ _. d < length (get_or ps i [])) (ltb d (length (get_or ps i [])))
        (λ b. ltb-true _ _ b)
        (λ b.
        let bare : name e.names r ≡ name e.names (get_or at i 0) =
        e.is ∙ ap (λ l. name g.names (get_or at i 0) ++ l) (no-letter (get_or ps i []) d (ltb-false _ _ b)) ∙ append-nil (name g.names (get_or at i 0)) ∙ sym (kept (get_or at i 0) (g.inside i h)) in
        let most : n ≤ length e.names = omega (arith, e.inside) in
        absurd (omega (arith, e.plain.trie.once r (get_or at i 0) e.inside (omega (arith, g.inside i h)) bare, g.inside i h)))

    more : n ≤ length e.names
    more = by-test (λ b. length e.names ≡ cond b (suc n) n → n ≤ length e.names) (eqb r n) (λ _ z. omega arith) (λ _ z. omega arith) size

    bounded : length e.names ≤ n + length cs
    unfolding cs
    bounded =
        by-test (λ b. eqb r n ≡ b → length e.names ≡ cond b (suc n) n → length e.names ≤ n + length (take 1 (drop d (get_or ps i [])))) (eqb r n)
        (λ _ b z. omega (arith, grew (eqb-true r n b), length-take 1 (drop d (get_or ps i [])), length-drop d (get_or ps i [])))
        (λ _ _ z. omega arith)
        refl size

    pub next_grows : Growing ps t' (set at i r) (cond (eqb r n) (suc n) n) d (suc i)
    unfolding cs
    next_grows =
        let W : List (List ℕ) = e.names in
        let p : List ℕ = get_or ps i [] in
        let tall : length (name W r) ≤ suc d = omega (arith, ap length named, length-take (suc d) p) in
        let i< : i < length at = omega (arith, g.each) in
        rw (← size) (record {
          names = W;
          plain = e.plain;
          count = refl;
          front = λ s l. either-old (λ s. known ps (name W s) ≡ true) s l (λ k. ap (known ps) (kept s k) ∙ g.front s k) (λ _. ap (known ps) named ∙ known-take ps i (suc d) h);
          level = λ s l. either-old (λ s. length (name W s) ≤ suc d) s l (λ k. omega (arith, ap length (kept s k), g.level s k)) (λ _. tall);
          rising = λ s q a l.
              either-old (λ q. s ≤ q → length (name W s) ≤ length (name W q)) q l
              (λ k a. omega (arith, ap length (kept s (omega arith)), ap length (kept q k), g.rising s q a k))
              (λ z a.
              let full : length (name W r) ≡ suc d = ap length named ∙ length-take (suc d) p ∙ omega (arith, grew z) in
              either-old (λ s. length (name W s) ≤ length (name W r)) s (omega arith) (λ k. omega (arith, ap length (kept s k), g.level s k)) (λ _. omega arith))
              a;
          each = length-set at i r ∙ g.each;
          inside = λ k l.
              by-test (λ _. get_or (set at i r) k 0 < length W) (eqb k i)
              (λ b. rw (eqb-true k i b, get_or-set_same at i r 0 i<) e.inside)
              (λ b. rw (get_or-set_other at i k r 0 (eqb-false k i b)) (omega (arith, g.inside k l, more)));
          here = λ k l.
              by-test (λ _. name W (get_or (set at i r) k 0) ≡ take (depth d (suc i) k) (get_or ps k [])) (eqb k i)
              (λ b. rw (depth-here d i k (eqb-true k i b)) (rw (eqb-true k i b, get_or-set_same at i r 0 i<) named))
              (λ b. rw (get_or-set_other at i k r 0 (eqb-false k i b), depth-other d i k (eqb-false k i b)) (kept (get_or at k 0) (g.inside k l) ∙ g.here k l));
          room = let f = fewer in let b = bounded in omega (arith, g.room);
          small = g.small;
          long = omega (arith, g.long, e.long);
        })

-- as the code counts
pub grows-as : {ps : List (List ℕ)} {t at : List ℕ} {m n d i j : ℕ} → m ≡ n → j ≡ i → Growing ps t at n d i → Growing ps t at m d j
grows-as e f g = rw (e, f) g

-- a phrase that has no letter d is passed over
pub grows-past : {ps : List (List ℕ)} {t at : List ℕ} {n d i : ℕ} → Growing ps t at n d i → i < length ps → length (get_or ps i []) ≤ d → Growing ps t at n d (suc i)
grows-past {ps} {t} {at} {n} {d} {i} g h short =
    let x : ℕ = get_or at i 0 in
    let inside : x < n = g.inside i h in
    let e : Extended g.names t t x (take 1 (drop d (get_or ps i []))) x = extended_none g.plain (take 1 (drop d (get_or ps i []))) (omega (arith, g.count)) (no-letter (get_or ps i []) d short) in
    let other : eqb x n ≡ false = ne_eqb x n (λ z. omega arith) in
    rw (set-get_or at i 0, other) at (next_grows g h e)

pub counted-new : {r n m : ℕ} → r ≡ n → m ≡ n + 1 → m ≡ cond (eqb r n) (suc n) n
counted-new {r} {n} e f = rw (eq-eqb r n e) (f ∙ add-one n)

pub counted-old : {r n m : ℕ} → (r ≡ n → ⊥) → m ≡ n → m ≡ cond (eqb r n) (suc n) n
counted-old {r} {n} e f = rw (ne_eqb r n e) f

-- ---- the next level

pub level-on : {ps : List (List ℕ)} {t at : List ℕ} {n d i : ℕ} → Growing ps t at n d i → length ps ≤ i → i ≤ length ps → Growing ps t at n (suc d) 0
level-on {ps} {t} {at} {n} {d} {i} g a b =
    record {
      names = g.names;
      plain = g.plain;
      count = g.count;
      front = g.front;
      level = λ s h. omega (arith, g.level s h);
      rising = g.rising;
      each = g.each;
      inside = g.inside;
      here = λ k h. let e : depth d i k ≡ depth (suc d) 0 k = rw (lt-ltb k i (omega arith), le-ltb k 0 (omega arith)) in g.here k h ∙ ap (λ j. take j (get_or ps k [])) e;
      room = let z : i ≡ length ps = omega arith in omega (arith, g.room, ap (λ j. left d j ps) z, left-level d ps);
      small = g.small;
      long = g.long;
    }

-- ---- the root alone

root-entry : (t : List ℕ) (f : ℕ) → 8 ≤ length t → f < 8 → get_or (sets t 0 (replicate 8 0)) (8 * 0 + f) 0 ≡ 0
root-entry t f h k = sets-inside (replicate 8 0) t 0 f (omega arith) (omega arith) ∙ get_or-replicate 8 f 0 0 k

pub root-plain : (t : List ℕ) → 8 ≤ length t → Plain ([] ∷ []) (sets t 0 (replicate 8 0))
root-plain t h =
    let W : List (List ℕ) = [] ∷ [] in
    record {
      trie = record {
        some = omega arith;
        room = omega (arith, length-sets t 0 (replicate 8 0));
        root = refl;
        once = λ s r a b _. omega arith;
        parent = λ x a b. absurd (omega arith);
        first = λ s a.
            let z : s ≡ 0 = omega arith in
            rw z (rw (root-entry t 1 h (omega arith)) (record { below = omega arith; here = λ b. absurd (omega arith); none = λ y b k _. omega arith }));
        sibling = λ s x a b k. absurd (omega arith);
      };
      up = λ x a b. absurd (omega arith);
      blank = λ x f a b k. let z : x ≡ 0 = omega arith in rw z (root-entry t f h k);
    }

pub grows-first : {ps : List (List ℕ)} (t : List ℕ) {at : List ℕ} → 1 ≤ length ps → letters ps ≤ 65534 → 8 * suc (letters ps) ≤ length t → length at ≡ length ps → ((k : ℕ) → k < length ps → get_or at k 0 ≡ 0)
    → Growing ps (sets t 0 (replicate 8 0)) at 1 0 0
grows-first {ps} t {at} some small long each zeros =
    let W : List (List ℕ) = [] ∷ [] in
    let root : (s : ℕ) → s < 1 → name W s ≡ [] = λ s h. let z : s ≡ 0 = omega arith in rw z in
    record {
      names = W;
      plain = root-plain t (omega arith);
      count = refl;
      front = λ s h. ap (known ps) (root s h) ∙ known-take ps 0 0 some;
      level = λ s h. omega (arith, ap length (root s h));
      rising = λ s r a h. omega (arith, ap length (root s (omega arith)));
      each = each;
      inside = λ k h. omega (arith, zeros k h);
      here = λ k h. ap (name W) (zeros k h) ∙ ap (λ b. take (cond b 1 0) (get_or ps k [])) (sym (le-ltb k 0 (omega arith)));
      room = omega (arith, left-all ps);
      small = small;
      long = omega (arith, length-sets t 0 (replicate 8 0));
    }

-- ---- all prefixes

pub known-has : (ps : List (List ℕ)) (l : List ℕ) → known ps l ≡ true → (k : ℕ) × ((k < length ps) × (starts_with (get_or ps k []) l ≡ true))
unfolding known
known-has [] l e = absurd (false≢true e)
known-has (p ∷ ps) l e =
    by-test (λ b. starts_with p l ≡ b → b || known ps l ≡ true → (k : ℕ) × ((k < suc (length ps)) × (starts_with (get_or (p ∷ ps) k []) l ≡ true))) (starts_with p l)
    (λ _ f _. (0, (omega arith, f)))
    (λ _ _ f. let w = known-has ps l f in (suc w.0, (omega (arith, w.1.0), w.1.1)))
    refl e

-- each prefix of a name is a name
trie-front : {names : List (List ℕ)} {t : List ℕ} → Trie names t → (f x j : ℕ) → x ≤ f → x < length names → j ≤ length (name names x)
    → (s : ℕ) × ((s < length names) × (name names s ≡ take j (name names x)))
trie-front {names} {t} trie zero x j h l k =
    let z : x ≡ 0 = omega arith in
    let r : name names x ≡ [] = ap (name names) z ∙ trie.root in
    (x, (l, sym (take_all j (name names x) (omega (arith, ap length r)))))
trie-front {names} {t} trie (suc f) x j h l k =
    by-test (λ _. (s : ℕ) × ((s < length names) × (name names s ≡ take j (name names x)))) (ltb j (length (name names x)))
    (λ b.
    let short : j < length (name names x) = ltb-true _ _ b in
    let pos : 1 ≤ x = above short in
    let p = trie.parent x pos l in
    let size : length (name names x) ≡ suc (length (name names p.parent)) = ap length p.child ∙ snoc-length (name names p.parent) (letter_at t x) in
    let w = trie-front trie f p.parent j (omega (arith, p.before)) (omega (arith, p.before)) (omega arith) in
    (w.0, (w.1.0, w.1.1 ∙ sym (take-append-le j (name names p.parent) (letter_at t x ∷ []) (omega arith)) ∙ ap (take j) (sym p.child))))
    (λ b. (x, (l, sym (take_all j (name names x) (ltb-false _ _ b)))))
  where
    above : j < length (name names x) → 1 ≤ x
    above s = by-test (λ _. 1 ≤ x) (eqb x 0) (λ b. absurd (omega (arith, ap length (ap (name names) (eqb-true x 0 b) ∙ trie.root)))) (λ b. omega (arith, eqb-false x 0 b))

-- where no phrase is longer than the levels made, all prefixes are in
pub grown : {ps : List (List ℕ)} {t at : List ℕ} {n d : ℕ} → Growing ps t at n d 0 → ((k : ℕ) → k < length ps → length (get_or ps k []) ≤ d) → Grown ps t at n
unfolding starts_with
grown {ps} {t} {at} {n} {d} g short =
    let whole : (k : ℕ) → k < length ps → name g.names (get_or at k 0) ≡ get_or ps k [] =
    λ k h. g.here k h ∙ ap (λ b. take (cond b (suc d) d) (get_or ps k [])) (le-ltb k 0 (omega arith)) ∙ take_all d (get_or ps k []) (short k h) in
    record {
      names = g.names;
      plain = g.plain;
      named = record {
        count = g.count;
        few = omega (arith, g.room);
        front = g.front;
        all = λ l e.
            let w = known-has ps l e in
            let k : ℕ = w.0 in
            let is : take (length l) (get_or ps k []) ≡ l = same_true _ _ w.1.1 in
            let x : ℕ = get_or at k 0 in
            let named : name g.names x ≡ get_or ps k [] = whole k w.1.0 in
            let v = trie-front g.plain.trie x x (length l) (omega arith) (omega (arith, g.count, g.inside k w.1.0)) (omega (arith, ap length named, ap length is, length-take (length l) (get_or ps k []))) in
            (v.0, (omega (arith, v.1.0, g.count), v.1.1 ∙ ap (take (length l)) named ∙ is));
        rising = g.rising;
        inside = g.inside;
        here = whole;
      };
    }
