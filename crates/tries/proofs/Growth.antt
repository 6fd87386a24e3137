-- The laws of the trie while it grows: one state more. Assumes nothing.
use mathlib.Core.Path.{◌≡◌, refl, sym, ap, ap₂, ◌∙◌}
use Prim.Native.Nat.{ℕ, zero, suc, ◌+◌, ◌*◌, ◌≤◌, ◌<◌}
use native.Mathlib.Omega.{arith}
use mathlib.Core.List.{List, [], ◌∷◌, ◌++◌, map, append-nil}
use native.Mathlib.Nat.{add-zero}
use lib.ListN.{length, get_or, take, drop, set, drop_of_length-le, length-append, length-set, get_or-replicate, get_or-append}
use lib.Seq.{get_or-append_seam, get_or-set_same, get_or-set_other, sets, length-sets}
use lib.Dec.{eqb}
use borrow.Author.Tests.{eqb-true, eqb-false, eq-eqb, ne_eqb}
use Rattle.matching.proofs.CaseAnalysis.{by-test}
use Rattle.tries.specs.Tables.{letter_at, child_at, sibling_at, fail_at, name, Child, Latest, Parent, Trie, added, with_child, LookedUp, Plain, Extended}
use Rattle.tries.proofs.Tries.{snoc-length, snoc-front, letter-kept}

-- ---- what the new state changes in the table

-- s gets the child x by letter c: all that is read of the table afterwards
pub record Entered (t t' : List ℕ) (s x c : ℕ) : Type 0 where
  pub long : length t' ≡ length t
  pub kept : (y f : ℕ) → y < x → f < 8 → (f ≡ 1 → y ≡ s → ⊥) → get_or t' (8 * y + f) 0 ≡ get_or t (8 * y + f) 0
  pub letter : letter_at t' x ≡ c
  pub childless : child_at t' x ≡ 0
  pub sibling : sibling_at t' x ≡ child_at t s
  pub parent : fail_at t' x ≡ s
  pub first : child_at t' s ≡ x
  pub unmarked : (f : ℕ) → 4 ≤ f → f < 8 → get_or t' (8 * x + f) 0 ≡ 0

-- a run of stores, read outside and inside it
pub sets-outside : (vs l : List ℕ) (i j : ℕ) → (i ≤ j → j < i + length vs → ⊥) → get_or (sets l i vs) j 0 ≡ get_or l j 0
sets-outside [] l i j h = refl
sets-outside (v ∷ vs) l i j h =
    sets-outside vs (set l i v) (suc i) j (λ a b. h (omega arith) (omega arith)) ∙ get_or-set_other l i j v 0 (λ e. h (omega arith) (omega arith))

pub sets-inside : (vs l : List ℕ) (i k : ℕ) → k < length vs → i + length vs ≤ length l → get_or (sets l i vs) (i + k) 0 ≡ get_or vs k 0
sets-inside [] l i k h room = absurd (omega arith)
sets-inside (v ∷ vs) l i zero h room =
    ap (λ j. get_or (sets (set l i v) (suc i) vs) j 0) (add-zero i) ∙ sets-outside vs (set l i v) (suc i) i (λ a b. omega arith) ∙ get_or-set_same l i v 0 (omega arith)
sets-inside (v ∷ vs) l i (suc k) h room =
    let e : i + suc k ≡ suc i + k = omega arith in
    ap (λ j. get_or (sets (set l i v) (suc i) vs) j 0) e ∙ sets-inside vs (set l i v) (suc i) k (omega arith) (omega (arith, length-set l i v))

module _ (t : List ℕ) (s x c : ℕ) (s< : s < x) (room : 8 * x + 8 ≤ length t) where
  row : List ℕ
  row = c ∷ 0 ∷ child_at t s ∷ s ∷ 0 ∷ 0 ∷ 0 ∷ 0 ∷ []

  new : (f : ℕ) → f < 8 → get_or (added t s x c) (8 * x + f) 0 ≡ get_or row f 0
  unfolding added row
  new f h = get_or-set_other (sets t (8 * x) row) (8 * s + 1) (8 * x + f) x 0 (λ e. omega arith) ∙ sets-inside row t (8 * x) f h room

  blank : (f : ℕ) → 4 ≤ f → f < 8 → get_or row f 0 ≡ 0
  unfolding row
  blank zero a b = absurd (omega arith)
  blank (suc zero) a b = absurd (omega arith)
  blank (suc (suc zero)) a b = absurd (omega arith)
  blank (suc (suc (suc zero))) a b = absurd (omega arith)
  blank (suc (suc (suc (suc f)))) a b = get_or-replicate 4 f 0 0 (omega arith)

  pub entered : Entered t (added t s x c) s x c
  unfolding added row
  entered =
      let t₁ : List ℕ = sets t (8 * x) row in
      let long₁ : length t₁ ≡ length t = length-sets t (8 * x) row in
      record {
        long = length-set t₁ (8 * s + 1) x ∙ long₁;
        kept = λ y f h k d.
            get_or-set_other t₁ (8 * s + 1) (8 * y + f) x 0 (λ e. d (omega arith) (omega arith)) ∙ sets-outside row t (8 * x) (8 * y + f) (λ a b. omega arith);
        letter = ap (λ i. get_or (added t s x c) i 0) (sym (add-zero (8 * x))) ∙ new 0 (omega arith);
        childless = new 1 (omega arith);
        sibling = new 2 (omega arith);
        parent = new 3 (omega arith);
        first = get_or-set_same t₁ (8 * s + 1) x 0 (omega arith);
        unmarked = λ f a b. new f b ∙ blank f a b;
      }

-- ---- the trie with one state more

module _ (names : List (List ℕ)) (s c : ℕ) where
  pub size-new : length (with_child names s c) ≡ suc (length names)
  unfolding with_child
  size-new = length-append names ((name names s ++ (c ∷ [])) ∷ []) ∙ omega arith

  pub name-old : (y : ℕ) → y < length names → name (with_child names s c) y ≡ name names y
  unfolding with_child
  name-old y h = get_or-append names ((name names s ++ (c ∷ [])) ∷ []) [] y h

  pub name_new : name (with_child names s c) (length names) ≡ name names s ++ (c ∷ [])
  unfolding with_child
  name_new = get_or-append_seam names (name names s ++ (c ∷ [])) [] []

-- a state below n + 1 is the new one, or an old one
pub newest : (Q : ℕ → Type 0) (n y : ℕ) → y < suc n → (y < n → Q y) → Q n → Q y
newest Q n y h old new = by-test (λ _. Q y) (eqb y n) (λ e. rw (eqb-true y n e) new) (λ e. old (omega (arith, eqb-false y n e)))

module _ {names : List (List ℕ)} {t t' : List ℕ} {s c : ℕ} (trie : Trie names t) (s< : s < length names)
    (none : (y : ℕ) → y < length names → name names y ≡ name names s ++ (c ∷ []) → ⊥) (e : Entered t t' s (length names) c) (room : 8 * suc (length names) ≤ length t) where
  letter-old : (y : ℕ) → y < length names → letter_at t' y ≡ letter_at t y
  letter-old y h = letter-kept t t' y (e.kept y 0 h (omega arith) (λ z. absurd (omega arith)))

  -- among the old states a child is what it was
  child-on : (r y : ℕ) → r < length names → y < length names → Child names t r y → Child (with_child names s c) t' r y
  child-on r y h k f = name-old names s c y k ∙ f ∙ ap₂ (λ l d. l ++ (d ∷ [])) (sym (name-old names s c r h)) (sym (letter-old y k))

  child-back : (r y : ℕ) → r < length names → y < length names → Child (with_child names s c) t' r y → Child names t r y
  child-back r y h k f = sym (name-old names s c y k) ∙ f ∙ ap₂ (λ l d. l ++ (d ∷ [])) (name-old names s c r h) (letter-old y k)

  latest-on : {r top x : ℕ} → r < length names → top ≤ length names → Latest (Child names t r) top x → Latest (Child (with_child names s c) t' r) top x
  latest-on {r} {top} {x} h k l =
      let b : x < top = l.below in
      record { below = l.below; here = λ a. child-on r x h (omega arith) (l.here a); none = λ y a b f. l.none y a b (child-back r y h (omega arith) f) }

  -- the new state is a child of s alone, and has no child
  child-new : Child (with_child names s c) t' s (length names)
  child-new = name_new names s c ∙ ap₂ (λ l d. l ++ (d ∷ [])) (sym (name-old names s c s s<)) (sym e.letter)

  of-s-alone : (r : ℕ) → r < length names → Child (with_child names s c) t' r (length names) → r ≡ s
  of-s-alone r h f =
      trie.once r s h s< (snoc-front (name names r) (name names s) (letter_at t' (length names)) c (ap (λ (l : List ℕ). l ++ (letter_at t' (length names) ∷ [])) (sym (name-old names s c r h)) ∙ sym f ∙ name_new names s c))

  no-grandchild : (y : ℕ) → 1 ≤ y → y < suc (length names) → Child (with_child names s c) t' (length names) y → ⊥
  no-grandchild y a h =
      newest (λ y. 1 ≤ y → Child (with_child names s c) t' (length names) y → ⊥) (length names) y h
      (λ k a f.
      let p = trie.parent y a k in
      none p.parent (omega (arith, p.before))
      (snoc-front (name names p.parent) (name names s ++ (c ∷ [])) (letter_at t y) (letter_at t' y)
      (sym p.child ∙ sym (name-old names s c y k) ∙ f ∙ ap (λ (l : List ℕ). l ++ (letter_at t' y ∷ [])) (name_new names s c))))
      (λ a f. omega (arith, ap length f, snoc-length (name (with_child names s c) (length names)) (letter_at t' (length names))))
      a

  pub trie-add : Trie (with_child names s c) t'
  trie-add =
      let n : ℕ = length names in
      let size : length (with_child names s c) ≡ suc n = size-new names s c in
      let W : List (List ℕ) = with_child names s c in
      record {
        some = omega arith;
        room = omega (arith, e.long);
        root = name-old names s c 0 trie.some ∙ trie.root;
        once = λ r q h k f.
            newest (λ r. name W r ≡ name W q → r ≡ q) n r (omega arith)
            (λ h. newest (λ q. name W r ≡ name W q → r ≡ q) n q (omega arith)
            (λ k f. trie.once r q h k (sym (name-old names s c r h) ∙ f ∙ name-old names s c q k))
            (λ f. absurd (none r h (sym (name-old names s c r h) ∙ f ∙ name_new names s c))))
            (newest (λ q. name W n ≡ name W q → n ≡ q) n q (omega arith)
            (λ k f. absurd (none q k (sym (name-old names s c q k) ∙ sym f ∙ name_new names s c)))
            (λ _. refl))
            f;
        parent = λ x a h.
            newest (λ x. 1 ≤ x → Parent W t' x) n x (omega arith)
            (λ k a. let p = trie.parent x a k in record { parent = p.parent; before = p.before; child = child-on p.parent x (omega (arith, p.before)) k p.child })
            (λ a. record { parent = s; before = s<; child = child-new })
            a;
        first = λ r h.
            newest (λ r. Latest (Child W t' r) (length W) (child_at t' r)) n r (omega arith)
            (λ k.
            by-test (λ _. Latest (Child W t' r) (length W) (child_at t' r)) (eqb r s)
            (λ d. rw (eqb-true r s d, e.first) (record { below = omega arith; here = λ _. child-new; none = λ y a b f. omega arith }))
            (λ d.
            let l = trie.first r k in
            let o : child_at t' r ≡ child_at t r = e.kept r 1 k (omega arith) (λ _. eqb-false r s d) in
            rw o (record {
              below = omega (arith, l.below);
              here = λ a. child-on r (child_at t r) k l.below (l.here a);
              none = λ y a b f. newest (λ y. child_at t r < y → Child W t' r y → ⊥) n y (omega arith) (λ i a f. l.none y a i (child-back r y k i f)) (λ _ f. eqb-false r s d (of-s-alone r k f)) a f;
            })))
            (rw e.childless (record { below = omega arith; here = λ a. absurd (omega arith); none = λ y a b f. no-grandchild y a (omega arith) f }));
        sibling = λ r x h a k f.
            newest (λ r. Child W t' r x → Latest (Child W t' r) x (sibling_at t' x)) n r (omega arith)
            (λ i. newest (λ x. 1 ≤ x → Child W t' r x → Latest (Child W t' r) x (sibling_at t' x)) n x (omega arith)
            (λ j a f. rw (e.kept x 2 j (omega arith) (λ z. absurd (omega arith))) (latest-on i (omega arith) (trie.sibling r x i a j (child-back r x i j f))))
            (λ _ f. rw (e.sibling, of-s-alone r i f) (latest-on s< (omega arith) (trie.first s s<)))
            a)
            (λ f. absurd (no-grandchild x a (omega arith) f))
            f;
      }

-- ---- the step of growth: the child that there is, or the new one

module _ {names : List (List ℕ)} {t : List ℕ} {s c : ℕ} (plain : Plain names t) where
  pub extended-old : {r : ℕ} → LookedUp names s c r → 1 ≤ r → Extended names t t s (c ∷ []) r
  extended-old {r} u h =
      record {
        names = names;
        plain = plain;
        long = refl;
        count = rw (ne_eqb r (length names) (λ e. omega (arith, u.inside)));
        kept = λ y _. refl;
        inside = u.inside;
        is = u.found h;
      }

  extended-new : {t' : List ℕ} {r : ℕ} → s < length names → LookedUp names s c r → r ≡ 0 → 8 * length names + 8 ≤ length t → t' ≡ added t s (length names) c
      → Extended names t t' s (c ∷ []) (length names)
  extended-new {t'} {r} s< u z room is =
      let n : ℕ = length names in
      let e : Entered t t' s n c = rw is (entered t s n c s< room) in
      let none = u.none z in
      let room' : 8 * suc n ≤ length t = omega arith in
      let size : length (with_child names s c) ≡ suc n = size-new names s c in
      let W : List (List ℕ) = with_child names s c in
      record {
        names = W;
        plain = record {
          trie = trie-add plain.trie s< none e room';
          up = λ x a h.
              newest (λ x. 1 ≤ x → (fail_at t' x < x) × Child W t' (fail_at t' x) x) n x (omega arith)
              (λ k a.
              let p = plain.up x a k in
              rw (e.kept x 3 k (omega arith) (λ z. absurd (omega arith))) (p.0, child-on plain.trie s< none e room' (fail_at t x) x (omega (arith, p.0)) k p.1))
              (λ _. rw e.parent (s<, child-new plain.trie s< none e room'))
              a;
          blank = λ x f h a b.
              newest (λ x. get_or t' (8 * x + f) 0 ≡ 0) n x (omega arith)
              (λ k. e.kept x f k b (λ z. absurd (omega arith)) ∙ plain.blank x f k a b)
              (e.unmarked f a b);
        };
        long = e.long;
        count = rw (eq-eqb n n refl) size;
        kept = λ y h. name-old names s c y h;
        inside = omega arith;
        is = name_new names s c;
      }

  -- the same where n is the number of states
  pub extended-next : {t' : List ℕ} {n r : ℕ} → length names ≡ n → s < n → LookedUp names s c r → r ≤ 0 → 8 * n + 8 ≤ length t → t' ≡ added t s n c → Extended names t t' s (c ∷ []) n
  extended-next count s< u z room is = rw (← count) (extended-new (rw (← count) at s<) u (omega arith) (rw (← count) at room) (rw (← count) at is))

-- no letter: nothing changes
pub extended_none : {names : List (List ℕ)} {t : List ℕ} {r : ℕ} → Plain names t → (cs : List ℕ) → r < length names → cs ≡ [] → Extended names t t r cs r
extended_none {names} {t} {r} plain cs h e =
    record {
      names = names;
      plain = plain;
      long = refl;
      count = rw (ne_eqb r (length names) (λ e. omega arith));
      kept = λ y _. refl;
      inside = h;
      is = rw (e, append-nil (name names r));
    }

-- letter d of a phrase, as a list; that of a folded phrase
pub no-letter : (p : List ℕ) (d : ℕ) → length p ≤ d → take 1 (drop d p) ≡ []
no-letter p d h = rw (drop_of_length-le p h)

pub folded-letter : (f : ℕ → ℕ) (p : List ℕ) (d : ℕ) → d < length p → take 1 (drop d (map f p)) ≡ f (get_or p d 0) ∷ []
folded-letter f [] d h = absurd (omega arith)
folded-letter f (x ∷ p) zero h = refl
folded-letter f (x ∷ p) (suc d) h = folded-letter f p d (omega arith)
