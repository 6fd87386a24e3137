-- The laws of the rows made one after another: that of the fail link, with the children laid over it. Assumes nothing.
use mathlib.Core.Path.{◌≡◌, refl, sym, ap, ◌∙◌}
use Prim.Native.Nat.{ℕ, ◌+◌, ◌*◌, ◌≤◌, ◌<◌}
use native.Mathlib.Omega.{arith}
use native.Mathlib.Nat.{mul-suc, mul-le-mul_left}
use native.Mathlib.Numerals.{add-one}
use mathlib.Core.Bool.{false, cond, true≢false}
use mathlib.Core.List.{List, [], ◌∷◌, ◌++◌}
use lib.ListN.{length, get_or}
use lib.Dec.{eqb}
use borrow.Author.Tests.{eqb-true, eqb-false}
use Rattle.matching.proofs.CaseAnalysis.{by-test}
use Rattle.phrases.specs.States.{known, next}
use Rattle.tries.specs.Tables.{letter_at, fail_at, name, Child}
use Rattle.tries.specs.Rows.{class_at, row_at, Leads, Rows, Put, Rowable, Overlaid, Fillable, base}
use Rattle.phrases.proofs.States.{state-known, next-fail, next-root}
use Rattle.tries.proofs.Tries.{by-letter}
use Rattle.tries.proofs.Links.{long-name}
use Rattle.tries.proofs.Marks.{trie-same}
use Rattle.tries.proofs.Growth.{newest}
use Rattle.tries.proofs.Rows.{row_inside}

-- ---- entries behind the states and classes may change

module _ {ps names : List (List ℕ)} {done : ℕ} {t t' : List ℕ} {w count : ℕ} (f : Fillable ps names done t w count) (long : length t' ≡ length t) (kept : (i : ℕ) → i < 33032 → get_or t' i 0 ≡ get_or t i 0) where
  pub fillable-same : Fillable ps names done t' w count
  fillable-same =
      let l = f.linked in
      let link : (s : ℕ) → s < length names → fail_at t' s ≡ fail_at t s = λ s h. kept (8 * s + 3) (omega (arith, f.few)) in
      let class : (c : ℕ) → c < 256 → class_at t' c ≡ class_at t c = λ c h. kept (32776 + c) (omega arith) in
      record {
        linked = record {
          trie = trie-same l.trie long (λ y g h k. kept (8 * y + g) (omega (arith, f.few)));
          most = l.most;
          front = l.front;
          all = l.all;
          falls = λ s a h. rw (link s (omega (arith, l.most))) (l.falls s a h);
          link = λ s a h. rw (link s (omega (arith, l.most))) (l.link s a h);
        };
        classes = record {
          below = λ c h. rw (class c h) (f.classes.below c h);
          apart = λ c d h k a e. f.classes.apart c d h k (omega (arith, class c h)) (sym (class c h) ∙ e ∙ class d k);
          named = λ s y c h e b. rw (class c b) (f.classes.named s y c h e b);
        };
        few = f.few;
        bytes = λ x a h. omega (arith, kept (8 * x) (omega (arith, f.few)), f.bytes x a h);
        room = omega (arith, f.room);
      }

pub rowable : {ps names : List (List ℕ)} {done : ℕ} {t : List ℕ} {w count s : ℕ} → Fillable ps names done t w count → s < count → s < done → Rowable names t w s
rowable {w = w} {count = count} {s = s} f h d =
    record {
      trie = f.linked.trie;
      classes = f.classes;
      few = f.few;
      bytes = f.bytes;
      inside = omega (arith, f.linked.most);
      room = omega (arith, f.room, mul-suc w s, mul-le-mul_left w h);
    }

-- ---- the next row

module _ {ps names : List (List ℕ)} {t t₁ t₂ : List ℕ} {done w count s : ℕ} (f : Fillable ps names done t w count) (h : s < count) (d : s < done) (r : Rows ps names w s t) (p : Put t t₁ (33032 + w * s) w (base t w s)) (o : Overlaid names t₁ t₂ w s) where
  -- what stands before this row stays
  both-kept : (i : ℕ) → i < 33032 + w * s → get_or t₂ i 0 ≡ get_or t i 0
  both-kept i k = o.outside i (λ a b. omega arith) ∙ p.outside i (λ a b. omega arith)

  f₁ : Fillable ps names done t₁ w count
  f₁ = fillable-same f p.long (λ i k. p.outside i (λ a b. omega arith))

  class₂ : (c : ℕ) → c < 256 → class_at t₂ c ≡ class_at t₁ c
  class₂ c k = o.outside (32776 + c) (λ a b. omega arith)

  class₁ : (c : ℕ) → c < 256 → class_at t₁ c ≡ class_at t c
  class₁ c k = p.outside (32776 + c) (λ a b. omega arith)

  -- a letter without a child: as from the fail link
  bare : (c : ℕ) → c < 256 → known ps (name names s ++ (c ∷ [])) ≡ false → Leads ps names s c (base t w s (class_at t c))
  bare c b e =
      let l = f.linked in
      by-test (λ x. eqb s 0 ≡ x → Leads ps names s c (cond x 0 (row_at t w (fail_at t s) (class_at t c)))) (eqb s 0)
      (λ x _.
      let root : name names s ≡ [] = ap (name names) (eqb-true s 0 x) ∙ l.trie.root in
      record { inside = l.trie.some; is = l.trie.root ∙ sym (next-root ps c (rw root at e)) ∙ ap (λ n. next ps n c) (sym root) })
      (λ x _.
      let a : 1 ≤ s = omega (arith, eqb-false s 0 x) in
      let s< : s < length names = omega (arith, l.most) in
      let e' = r.row (fail_at t s) c (l.falls s a d) b in
      record { inside = e'.inside; is = e'.is ∙ ap (λ n. next ps n c) (l.link s a d) ∙ sym (next-fail ps (name names s) c (long-name l s a s<) e) })
      refl

  this : (c : ℕ) → c < 256 → Leads ps names s c (row_at t₂ w s (class_at t₂ c))
  this c b =
      let l₁ = f₁.linked in
      rw (class₂ c b)
      (by-test (λ x. known ps (name names s ++ (c ∷ [])) ≡ x → Leads ps names s c (row_at t₂ w s (class_at t₁ c))) (known ps (name names s ++ (c ∷ [])))
      (λ x _.
      let y = l₁.all (name names s ++ (c ∷ [])) x in
      let g = by-letter l₁.trie s c y.0 y.1.0 y.1.1 in
      let at : row_at t₂ w s (class_at t₁ c) ≡ y.0 = ap (λ d. row_at t₂ w s (class_at t₁ d)) (sym g.letter) ∙ o.laid y.0 g.above y.1.0 g.child in
      rw at (record { inside = y.1.0; is = y.1.1 ∙ sym (state-known ps (name names s ++ (c ∷ [])) x) }))
      (λ x _.
      let none : (y : ℕ) → 1 ≤ y → y < length names → Child names t₁ s y → letter_at t₁ y ≡ c → ⊥ =
      λ y _ k g e. true≢false (sym (l₁.front y k) ∙ ap (known ps) (g ∙ ap (λ d. name names s ++ (d ∷ [])) e) ∙ x) in
      let k< : class_at t c < w = f.classes.below c b in
      let i : 33032 + (w * s + class_at t c) ≡ 33032 + w * s + class_at t c = omega arith in
      let at : row_at t₂ w s (class_at t₁ c) ≡ base t w s (class_at t c) =
      o.left c b none ∙ ap (row_at t₁ w s) (class₁ c b) ∙ ap (λ j. get_or t₁ j 0) i ∙ p.within (class_at t c) k< in
      rw at (bare c b x))
      refl)

  earlier : (q c : ℕ) → q < s → c < 256 → Leads ps names q c (row_at t₂ w q (class_at t₂ c))
  earlier q c k b =
      let e : class_at t₂ c ≡ class_at t c = class₂ c b ∙ class₁ c b in
      let in_row : w * q + class_at t c < w * s = row_inside w s q (class_at t c) k (f.classes.below c b) in
      let at : row_at t₂ w q (class_at t₂ c) ≡ row_at t w q (class_at t c) = ap (row_at t₂ w q) e ∙ both-kept (33032 + (w * q + class_at t c)) (omega arith) in
      rw at (r.row q c k b)

  pub rows_next : Rows ps names w (s + 1) t₂
  rows_next =
      rw (add-one s) (record {
        classes = (fillable-same f₁ o.long (λ i k. o.outside i (λ a b. omega arith))).classes;
        room = omega (arith, f.room, mul-le-mul_left w h, o.long, p.long);
        row = λ q c k b. newest (λ q. Leads ps names q c (row_at t₂ w q (class_at t₂ c))) s q k (λ l. earlier q c l b) (this c b);
      })

pub rows_none : {ps names : List (List ℕ)} {done : ℕ} {t : List ℕ} {w count : ℕ} → Fillable ps names done t w count → Rows ps names w 0 t
rows_none {w = w} {count = count} f =
    let z : 0 ≤ count = omega arith in
    record { classes = f.classes; room = omega (arith, f.room, mul-le-mul_left w z); row = λ s c h. absurd (omega arith) }
