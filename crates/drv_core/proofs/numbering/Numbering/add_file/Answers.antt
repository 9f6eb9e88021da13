use Rattle.drv_core.proofs.Notes.{noted_file}
use Rattle.drv_core.proofs.numbering.Numbering.add_file.Goals as goal
use Rattle.drv_core.specs.Code.Numbering.{number_in}
use Rattle.std.proofs.Common.{◌∙◌}

-- Names: `number_in`: the number of a path, looked up among keys that show a path. `noted_file`: one more file is noted, in the code's own
-- list.

-- one more file is noted, with the number of its path
pub returns : goal.returns
returns c before h = noted_file before c.args.self.now.files.items c.push.new.self.items (number_in c.args.self.now.known.entries
    (λ k. k.now)) (number_in c.note_path.new.known.entries (λ k. k.now)) c.args.place c.args.path.now
    c.number_of-first.result c.len-number.result h (c.len-number.ensures ∙ c.args.self.now.files.ok.0) c.number_of-first.ensures
    c.in_ok-push.ensures.items c.in_ok-note_path.ensures
