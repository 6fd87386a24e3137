-- `relist`: what a call that is not refused is known for (`Taken`) is what its parts ask, and what they put is the new list.
use Rattle.std.proofs.Common.{ℕ, arith, length-drop, length-take, refl}
use Rattle.cuts.proofs.Calls.{taken}
use Rattle.late_cuts.proofs.Calls.{relisted-taken}
use Rattle.late_cuts.proofs.Relisted.{new-inside, list-few, one_few, two_few, three_few, later_small, all_put}
use Rattle.late_cuts.proofs.relist.Goals as goal

pub put_staying-requires : goal.put_staying-requires
put_staying-requires c = let k = taken _ _ _ _ c.in_ok-refused.ensures refl in record { m_bound = k.short; list_value = k.rising; list_len_bound = list-few k; total_bound = omega arith }

pub put_fresh-requires : goal.put_fresh-requires
put_fresh-requires c =
    let k = taken _ _ _ _ c.in_ok-refused.ensures refl in
    record {
      phrase_some = k.some;
      phrase_bound = k.short;
      start_le_end = k.ordered;
      end_in_bounds = k.inside;
      letters_bound = new-inside k;
      total_bound = omega (arith, one_few k refl c.put_staying.ensures, list-few k);
    }

pub overflow_sub-lost : goal.overflow_sub-lost
overflow_sub-lost c = omega (arith, (taken _ _ _ _ c.in_ok-refused.ensures refl).ordered)

pub offset_bounds-list-stay : goal.offset_bounds-list-stay
offset_bounds-list-stay c = let k = taken _ _ _ _ c.in_ok-refused.ensures refl in omega (arith, one_few k refl c.put_staying.ensures, list-few k)

pub slice_bounds-put_moved-count : goal.slice_bounds-put_moved-count
slice_bounds-put_moved-count c = one_few (taken _ _ _ _ c.in_ok-refused.ensures refl) refl c.put_staying.ensures

pub slice_bounds-put_moved-start : goal.slice_bounds-put_moved-start
slice_bounds-put_moved-start c = one_few (taken _ _ _ _ c.in_ok-refused.ensures refl) refl c.put_staying.ensures

pub put_moved-requires : goal.put_moved-requires
put_moved-requires c =
    let k = taken _ _ _ _ c.in_ok-refused.ensures refl in
    record {
      lost_bound = omega arith;
      lost_small = omega (arith, k.inside, k.small);
      gained_bound = omega (arith, new-inside k);
      small = later_small k c.put_staying.new.self.total;
      list_len_bound = omega (arith, list-few k, length-take {A = ℕ}, length-drop {A = ℕ});
      total_bound = omega (arith, two_few k refl c.put_staying.ensures c.put_fresh.ensures);
    }

pub overflow_cast-result : goal.overflow_cast-result
overflow_cast-result c = let k = taken _ _ _ _ c.in_ok-refused.ensures refl in record { fits = omega (arith, three_few k refl c.put_staying.ensures c.put_fresh.ensures c.put_moved.ensures) }

pub returns : goal.returns
returns c =
    let k = taken _ _ _ _ c.in_ok-refused.ensures refl in
    let done = all_put k refl c.put_staying.ensures c.put_fresh.ensures c.put_moved.ensures in
    relisted-taken _ _ _ _ _ c.in_ok-refused.ensures refl done.1 (grind (arith, done.0))
