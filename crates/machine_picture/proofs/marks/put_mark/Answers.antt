use Rattle.machine_picture.proofs.Marking.{mark_put}
use Rattle.machine_picture.proofs.marks.put_mark.Goals as goal

pub returns : goal.returns
returns c =
    mark_put c.args.style c.args.out.now.items c.extend_from_slice.new.self.items c.put_part.new.out.items
    c.put_part-2.new.out.items c.put_part-3.new.out.items c.put_part-4.new.out.items c.extend_from_slice-2.new.self.items
    c.in_ok-extend_from_slice.ensures.items c.in_ok-put_part.ensures c.in_ok-put_part-2.ensures c.in_ok-put_part-3.ensures
    c.in_ok-put_part-4.ensures c.in_ok-extend_from_slice-2.ensures.items
