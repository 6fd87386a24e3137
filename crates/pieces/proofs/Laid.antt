-- Pieces laid out in a buffer: that `put_all` goes on where it left off, and that a buffer long enough for all pieces holds them all, one after another (`laid-all`). Assumes nothing.
use mathlib.Core.Path.{◌≡◌, refl, sym, ap, ap₂, ◌∙◌}
use Prim.Native.Nat.{ℕ, ◌+◌, ◌≤◌, ◌<◌}
use native.Mathlib.Omega.{arith}
use mathlib.Core.List.{List, [], ◌∷◌, ◌++◌, append_assoc, append-nil}
use lib.ListN.{length, take, drop, take-append-drop, length-append, length-drop}
use lib.Seq.{length-take-le, take_at, drop_at, drop-drop}
use lib.Dec.{leb}
use borrow.Author.Tests.{le-leb, lt-leb, leb-true, leb-false}
use Rattle.matching.proofs.CaseAnalysis.{by-test}
use Rattle.pieces.specs.Pieces.{Filled, joined, put, put_all, Laid}

-- a piece fits, and it does not
pub put-fits : (buffer : List ℕ) (at : ℕ) (piece : List ℕ) → at + length piece ≤ length buffer → put buffer at piece ≡ record { bytes = take at buffer ++ piece ++ drop (at + length piece) buffer; next = at + length piece }
unfolding put
put-fits buffer at piece h = rw (le-leb (at + length piece) (length buffer) h)

pub put-not : (buffer : List ℕ) (at : ℕ) (piece : List ℕ) → length buffer < at + length piece → put buffer at piece ≡ record { bytes = buffer; next = at }
unfolding put
put-not buffer at piece h = rw (lt-leb (at + length piece) (length buffer) h)

-- the buffer keeps its length
pub length-put : (buffer : List ℕ) (at : ℕ) (piece : List ℕ) → length (put buffer at piece).bytes ≡ length buffer
length-put buffer at piece =
    by-test (λ _. length (put buffer at piece).bytes ≡ length buffer) (leb (at + length piece) (length buffer))
    (λ e.
    let h = leb-true (at + length piece) (length buffer) e in
    ap (λ (f : Filled). length f.bytes) (put-fits buffer at piece h) ∙ length-append (take at buffer ++ piece) (drop (at + length piece) buffer)
    ∙ omega (arith, length-append (take at buffer) piece, length-take-le at buffer (omega arith), length-drop (at + length piece) buffer))
    (λ e. ap (λ (f : Filled). length f.bytes) (put-not buffer at piece (leb-false (at + length piece) (length buffer) e)))

-- no piece, one piece, and pieces after pieces
pub all_none : (buffer : List ℕ) (at : ℕ) → put_all buffer at [] ≡ record { bytes = buffer; next = at }
unfolding put_all
all_none buffer at = refl

pub all_one : (buffer : List ℕ) (at : ℕ) (piece : List ℕ) (pieces : List (List ℕ)) → put_all buffer at (piece ∷ pieces) ≡ put_all (put buffer at piece).bytes (put buffer at piece).next pieces
unfolding put_all
all_one buffer at piece pieces = refl

pub all_append : (buffer : List ℕ) (at : ℕ) (first then : List (List ℕ)) → put_all buffer at (first ++ then) ≡ put_all (put_all buffer at first).bytes (put_all buffer at first).next then
unfolding put_all
all_append buffer at [] then = refl
all_append buffer at (piece ∷ first) then = all_append (put buffer at piece).bytes (put buffer at piece).next first then

-- ---- what code has laid, joined

module _ (buffer₀ : List ℕ) (at : ℕ) where
  pub laid_none : Laid buffer₀ at (put_all buffer₀ at [])
  laid_none = rw (all_none buffer₀ at) (record { bytes = refl; next = refl })

  pub laid_one : (piece : List ℕ) {buffer : List ℕ} {r : ℕ} → Laid buffer r (put buffer₀ at piece) → Laid buffer r (put_all buffer₀ at (piece ∷ []))
  laid_one piece l = rw (all_one buffer₀ at piece [], all_none (put buffer₀ at piece).bytes (put buffer₀ at piece).next) (record { bytes = l.bytes; next = l.next })

  pub laid_cons : (piece : List ℕ) (pieces : List (List ℕ)) {buffer buffer' : List ℕ} {r r' : ℕ} → Laid buffer r (put buffer₀ at piece) → Laid buffer' r' (put_all buffer r pieces)
      → Laid buffer' r' (put_all buffer₀ at (piece ∷ pieces))
  laid_cons piece pieces {buffer} {buffer'} {r} {r'} l m =
      let e : put_all buffer r pieces ≡ put_all buffer₀ at (piece ∷ pieces) = ap₂ (λ (b : List ℕ) (n : ℕ). put_all b n pieces) l.bytes l.next ∙ sym (all_one buffer₀ at piece pieces) in
      record { bytes = m.bytes ∙ ap (λ (f : Filled). f.bytes) e; next = m.next ∙ ap (λ (f : Filled). f.next) e }

  pub laid_then : (first then : List (List ℕ)) {buffer buffer' : List ℕ} {r r' : ℕ} → Laid buffer r (put_all buffer₀ at first) → Laid buffer' r' (put_all buffer r then)
      → Laid buffer' r' (put_all buffer₀ at (first ++ then))
  laid_then first then {buffer} {buffer'} {r} {r'} l m =
      let e : put_all buffer r then ≡ put_all buffer₀ at (first ++ then) = ap₂ (λ (b : List ℕ) (n : ℕ). put_all b n then) l.bytes l.next ∙ sym (all_append buffer₀ at first then) in
      record { bytes = m.bytes ∙ ap (λ (f : Filled). f.bytes) e; next = m.next ∙ ap (λ (f : Filled). f.next) e }

-- ---- a buffer long enough for all pieces holds them all, one after another, and keeps the rest

pub laid-all : (pieces : List (List ℕ)) (buffer : List ℕ) (at : ℕ) → at + length (joined pieces) ≤ length buffer
    → put_all buffer at pieces ≡ record { bytes = take at buffer ++ joined pieces ++ drop (at + length (joined pieces)) buffer; next = at + length (joined pieces) }
unfolding joined
laid-all [] buffer at h =
    all_none buffer at
    ∙ ap₂ (λ (b : List ℕ) (n : ℕ). record { bytes = b; next = n })
    (let z : at + 0 ≡ at = omega arith in rw z (sym (ap (λ (l : List ℕ). l ++ drop at buffer) (append-nil (take at buffer)) ∙ take-append-drop at buffer)))
    (omega arith)
laid-all (piece ∷ pieces) buffer at h =
    let p : ℕ = length piece in
    let rest : List ℕ = joined pieces in
    let j : ℕ = length rest in
    let sum : length (piece ++ rest) ≡ p + j = length-append piece rest in
    let whole : List ℕ = take at buffer ++ piece ++ drop (at + p) buffer in
    let front : length (take at buffer ++ piece) ≡ at + p = length-append (take at buffer) piece ∙ omega (arith, length-take-le at buffer (omega arith)) in
    let long : length whole ≡ length buffer = length-append (take at buffer ++ piece) (drop (at + p) buffer) ∙ omega (arith, length-drop (at + p) buffer) in
    let first : take (at + p) whole ≡ take at buffer ++ piece = take_at (take at buffer ++ piece) (drop (at + p) buffer) (at + p) front in
    let after : drop (at + p + j) whole ≡ drop (at + length (piece ++ rest)) buffer =
    sym (drop-drop j (at + p) whole) ∙ ap (λ (l : List ℕ). drop j l) (drop_at (take at buffer ++ piece) (drop (at + p) buffer) (at + p) front) ∙ drop-drop j (at + p) buffer
    ∙ ap (λ (n : ℕ). drop n buffer) (end at p j (length (piece ++ rest)) sum) in
    all_one buffer at piece pieces
    ∙ ap (λ (f : Filled). put_all f.bytes f.next pieces) (put-fits buffer at piece (omega arith))
    ∙ laid-all pieces whole (at + p) (omega arith)
    ∙ ap₂ (λ (b : List ℕ) (n : ℕ). record { bytes = b; next = n })
    (rw (first, after) (ap (λ (l : List ℕ). l ++ drop (at + length (piece ++ rest)) buffer) (append_assoc (take at buffer) piece rest)))
    (end at p j (length (piece ++ rest)) sum)
  where
    end : (at p j n : ℕ) → n ≡ p + j → at + p + j ≡ at + n
    end at p j n e = omega arith

-- laid from the buffer's front on
pub laid-front : (pieces : List (List ℕ)) (buffer : List ℕ) {r : ℕ} {buffer' : List ℕ} → length (joined pieces) ≤ length buffer → Laid buffer' r (put_all buffer 0 pieces)
    → (r ≡ length (joined pieces)) × (buffer' ≡ joined pieces ++ drop (length (joined pieces)) buffer)
laid-front pieces buffer enough l =
    let none : 0 + length (joined pieces) ≡ length (joined pieces) = omega arith in
    let all = laid-all pieces buffer 0 (omega arith) in
    (l.next ∙ ap (λ (f : Filled). f.next) all ∙ none, l.bytes ∙ ap (λ (f : Filled). f.bytes) all ∙ ap (λ (n : ℕ). joined pieces ++ drop n buffer) none)

-- the bytes of pieces after pieces are the bytes of the first, then those of the others
pub joined-append : (first then : List (List ℕ)) → joined (first ++ then) ≡ joined first ++ joined then
unfolding joined
joined-append [] then = refl
joined-append (piece ∷ first) then = ap (λ (l : List ℕ). piece ++ l) (joined-append first then) ∙ sym (append_assoc piece (joined first) (joined then))
