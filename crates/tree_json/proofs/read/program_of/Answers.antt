use Rattle.tree_json.proofs.Numbering.{made-listed, made-numbered, made-shaped, refused-listed}
use Rattle.tree_json.proofs.read.program_of.Goals as goal

pub returns-clause-read : goal.returns-clause-read
returns-clause-read c = let parts = c.args.parts in
    made-listed c.new.result (record { source = parts.source; source_type = parts.source_type; comments = parts.comments.items; root = parts.root }) c.new.ensures.ok

pub returns-clause-refused : goal.returns-clause-refused
returns-clause-refused c = let parts = c.args.parts in
    refused-listed c.new.result (record { source = parts.source; source_type = parts.source_type; comments = parts.comments.items; root = parts.root }) c.new.ensures.err

pub returns-clause-numbered : goal.returns-clause-numbered
returns-clause-numbered c = let parts = c.args.parts in
    made-numbered c.new.result (record { source = parts.source; source_type = parts.source_type; comments = parts.comments.items; root = parts.root }) c.new.ensures.ok

pub returns-clause-shaped : goal.returns-clause-shaped
returns-clause-shaped c = made-shaped c.new.result c.new.ensures.fits
