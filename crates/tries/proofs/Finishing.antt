-- The laws that join the classes and the rows to the automaton. Assumes nothing.
use mathlib.Core.Path.{◌≡◌, sym, ap, ◌∙◌}
use Prim.Native.Nat.{ℕ, ◌+◌, ◌*◌, ◌/◌, ◌≤◌, ◌<◌}
use native.Mathlib.Omega.{arith}
use native.Mathlib.Numerals.{add-one}
use native.Mathlib.Nat.{mul_comm, div-mul-le_self, lt-div-mul-add}
use mathlib.Core.List.{List, [], ◌∷◌, ◌++◌}
use lib.ListN.{length, get_or, take}
use lib.Seq.{get_or-append_seam, get_or-take}
use lib.Dec.{ltb}
use borrow.Author.Tests.{ltb-true, ltb-false}
use Rattle.matching.proofs.CaseAnalysis.{by-test}
use Rattle.matching.proofs.Occurrences.{same_true}
use Rattle.phrases.specs.States.{starts_with}
use Rattle.tries.specs.Tables.{letter_at, fail_at, name, Linked}
use Rattle.tries.specs.Links.{bits_at, joined, Linking, Failed}
use Rattle.tries.specs.Rows.{class_at, Classed, Rows, Put, Overlaid, Rowable, base, Fillable, Making}
use Rattle.tries.proofs.Tries.{by-letter, snoc-length, letter-kept}
use Rattle.tries.proofs.Linking.{linking-next}
use Rattle.tries.proofs.Filling.{fillable-same, rowable, rows_none, rows_next}
use Rattle.tries.proofs.Levels.{known-has}
use Rattle.tries.proofs.Marks.{bits-kept, joined-long, joined-kept, joined-beyond, trie-same}

-- ---- entries behind the states may change

pub linking-same : {ps names : List (List ℕ)} {x : ℕ} (t t' : List ℕ) → Linking ps names x t → length t' ≡ length t → ((i : ℕ) → i < 8 * length names → get_or t' i 0 ≡ get_or t i 0) → Linking ps names x t'
linking-same {ps} {names} {x} t t' m long kept =
    let l = m.linked in
    let link : (s : ℕ) → s < length names → fail_at t' s ≡ fail_at t s = λ s h. kept (8 * s + 3) (omega arith) in
    let bits : (y : ℕ) → y < length names → bits_at t' y ≡ bits_at t y =
    λ y h. bits-kept t t' y (λ g _ b. kept (8 * y + g) (omega arith)) in
    record {
      linked = record {
        trie = trie-same l.trie long (λ y g h k. kept (8 * y + g) (omega arith));
        most = l.most;
        front = l.front;
        all = l.all;
        falls = λ s a h. rw (link s (omega (arith, l.most))) (l.falls s a h);
        link = λ s a h. rw (link s (omega (arith, l.most))) (l.link s a h);
      };
      up = λ y a h k. let u = m.up y a h k in rw (link y k) (u.0, u.1 ∙ ap (λ c. name names (fail_at t y) ++ (c ∷ [])) (sym (kept (8 * y) (omega arith))));
      bits = λ y h. bits y (omega (arith, l.most)) ∙ m.bits y h;
      ones = λ y h k. bits y k ∙ m.ones y h k;
      rising = m.rising;
      some = m.some;
    }

-- ---- the letters of states are bytes where those of the phrases are

pub letter-byte : {ps names : List (List ℕ)} {done : ℕ} {t : List ℕ} → Linked ps names done t → ((k i : ℕ) → get_or (get_or ps k []) i 0 < 256) → (x : ℕ) → 1 ≤ x → x < length names → letter_at t x < 256
unfolding starts_with
letter-byte {ps} {names} {done} {t} l bytes x a h =
    let p = l.trie.parent x a h in
    let n : List ℕ = name names p.parent in
    let w = known-has ps (name names x) (l.front x h) in
    let is : take (length (name names x)) (get_or ps w.0 []) ≡ name names x = same_true _ _ w.1.1 in
    let short : length n < length (name names x) = omega (arith, ap length p.child, snoc-length n (letter_at t x)) in
    let last : letter_at t x ≡ get_or (get_or ps w.0 []) (length n) 0 =
    sym (get_or-append_seam n (letter_at t x) [] 0) ∙ ap (λ (z : List ℕ). get_or z (length n) 0) (sym p.child) ∙ ap (λ (z : List ℕ). get_or z (length n) 0) (sym is) ∙ get_or-take (length (name names x)) (get_or ps w.0 []) (length n) 0 short in
    omega (arith, bytes w.0 (length n))

-- ---- how many rows there is room for

pub room_most : (room w : ℕ) → w * (room / w) ≤ room
room_most room w = omega (arith, div-mul-le_self room w, mul_comm w (room / w))

pub room-one : (room w : ℕ) → 1 ≤ w → w ≤ room → 1 ≤ room / w
room-one room w a h =
    by-test (λ _. 1 ≤ room / w) (ltb 0 (room / w)) (λ e. ltb-true 0 (room / w) e)
    (λ e. let z : room / w ≡ 0 = omega (arith, ltb-false 0 (room / w) e) in absurd (omega (arith, rw z at (lt-div-mul-add {a = room} {b = w} a))))

-- ---- entries before the classes may change

pub rows_same : {ps names : List (List ℕ)} {w r : ℕ} (t t' : List ℕ) → Rows ps names w r t → length t' ≡ length t → ((i : ℕ) → 32776 ≤ i → get_or t' i 0 ≡ get_or t i 0) → Rows ps names w r t'
rows_same {w = w} t t' m long kept =
    let class : (c : ℕ) → class_at t' c ≡ class_at t c = λ c. kept (32776 + c) (omega arith) in
    record {
      classes = record {
        below = λ c h. rw (class c) (m.classes.below c h);
        apart = λ c d h k a e. m.classes.apart c d h k (omega (arith, class c)) (sym (class c) ∙ e ∙ class d);
        named = λ s y c h e b. rw (class c) (m.classes.named s y c h e b);
      };
      room = omega (arith, m.room);
      row = λ s c h b. rw (class c, kept (33032 + (w * s + class_at t c)) (omega arith)) (m.row s c h b);
    }

-- ---- classes, and then links and rows

pub fillable : {ps names : List (List ℕ)} {t t₁ : List ℕ} {n w count : ℕ} → Linking ps names 1 t → length names ≡ n → n ≤ 4097 → ((x : ℕ) → 1 ≤ x → x < n → letter_at t x < 256) → Classed t t₁ n w
    → 33032 + w * count ≤ length t₁ → Linking ps names 1 t₁ × Fillable ps names 1 t₁ w count
fillable {t = t} {t₁ = t₁} l size few bytes m room =
    let l₁ = linking-same t t₁ l m.long (λ i h. m.kept i (λ a b. omega arith)) in (
      l₁,
      record {
        linked = l₁.linked;
        classes = record {
          below = m.below;
          apart = m.apart;
          named = λ s y c h e b. let g = by-letter l.linked.trie s c y h e in rw g.letter at (m.named y g.above (omega arith));
        };
        few = omega arith;
        bytes = λ x a h. omega (arith, m.kept (8 * x) (λ b c. omega arith), bytes x a (omega arith));
        room = room;
      },
    )

module _ {ps names : List (List ℕ)} {t : List ℕ} {w count : ℕ} where
  -- a state gets its row
  pub making-rowed : {done r : ℕ} {t₁ t₂ : List ℕ} → Linking ps names done t → Fillable ps names done t w count → Rows ps names w r t → r < count → r < done → count ≤ length names
      → Put t t₁ (33032 + w * r) w (base t w r) → Overlaid names t₁ t₂ w r → Making ps names t₂ w count done (r + 1)
  making-rowed {done} {r} {t₁} {t₂} l f rows h d most p o =
      let kept : (i : ℕ) → i < 33032 → get_or t₂ i 0 ≡ get_or t i 0 = λ i k. o.outside i (λ a b. omega arith) ∙ p.outside i (λ a b. omega arith) in
      let long : length t₂ ≡ length t = o.long ∙ p.long in
      record {
        linking = linking-same t t₂ l long (λ i k. kept i (omega (arith, f.few)));
        fill = fillable-same f long kept;
        rows = rows_next f h d rows p o;
        some = omega arith;
        most = most;
      }

  -- a state gets its link and joined bits
  pub making-linked : {x r f : ℕ} → Making ps names t w count x r → 1 ≤ x → x < length names → Failed ps names x f → ((i : ℕ) → get_or t i 0 < 65536) → Making ps names (joined t x f) w count (x + 1) r
  making-linked {x} {r} {f} m above h d small =
      let t₁ : List ℕ = joined t x f in
      let room : 8 * x + 8 ≤ length t = omega (arith, m.linking.linked.trie.room) in
      let long : length t₁ ≡ length t = joined-long t x f d.below room in
      let l = linking-next m.linking above h d small in
      let rows = rows_same t t₁ m.rows long (λ i k. joined-beyond t x f d.below room i (omega (arith, m.fill.few))) in
      rw (add-one x) (record {
        linking = l;
        fill = record {
          linked = l.linked;
          classes = rows.classes;
          few = m.fill.few;
          bytes = λ y a k. omega (arith, letter-kept t t₁ y (joined-kept t x f d.below room y 0 (omega arith) (λ _. omega arith)), m.fill.bytes y a k);
          room = omega (arith, m.fill.room);
        };
        rows = rows;
        some = m.some;
        most = m.most;
      })

-- ---- the pass, whatever automaton it is

-- n is how far it goes
pub record Passing (t₀ : List ℕ) (w count x₀ n : ℕ) (t : List ℕ) (x r : ℕ) : Type 0 where
  pub long : length t ≡ length t₀
  pub words : (i : ℕ) → get_or t i 0 < 65536
  pub making : (ps names : List (List ℕ)) → Making ps names t₀ w count x₀ x₀ → n ≤ length names → Making ps names t w count x r

pub passing-linked : {t₀ t t₁ : List ℕ} {w count x₀ n x r f : ℕ} → Passing t₀ w count x₀ n t x r → 1 ≤ x → x < n
    → ((ps names : List (List ℕ)) → Linking ps names x t → Rows ps names w r t → x < length names → Failed ps names x f) → t₁ ≡ joined t x f
    → (ps names : List (List ℕ)) → Making ps names t₀ w count x₀ x₀ → n ≤ length names → Making ps names t₁ w count (x + 1) r
passing-linked p above h failed e ps names m most =
    let k = p.making ps names m most in
    let h' = omega-lt h most in
    rw e (making-linked k above h' (failed ps names k.linking k.rows h') p.words)
  where
    omega-lt : {a b c : ℕ} → a < b → b ≤ c → a < c
    omega-lt a b = omega arith

-- ---- the root's row

module _ {ps names : List (List ℕ)} {t t₁ t₂ : List ℕ} {n w count : ℕ} (l : Linking ps names 1 t) (size : length names ≡ n) (few : n ≤ 4097) (bytes : (x : ℕ) → 1 ≤ x → x < n → letter_at t x < 256) (m : Classed t t₁ n w)
    (room : 33032 + w * count ≤ length t₁) (some : 1 ≤ count) (p : Put t₁ t₂ (33032 + w * 0) w (base t₁ w 0)) where
  pub root-rowable : Rowable names t₂ w 0
  root-rowable = rowable (fillable-same (fillable l size few bytes m room).1 p.long (λ i h. p.outside i (λ a b. omega arith))) some (omega arith)

  pub making-first : {t₃ : List ℕ} → count ≤ n → Overlaid names t₂ t₃ w 0 → Making ps names t₃ w count 1 1
  making-first most o = let f = fillable l size few bytes m room in making-rowed f.0 f.1 (rows_none f.1) some (omega arith) (omega arith) p o
