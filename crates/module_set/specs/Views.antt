-- What contracts see of a module's text in code.
use Rattle.std.specs.Str.{chars}
use Rattle.module_set.specs.SetForm.{WrittenModule}
use Rattle.module_set.specs.declared.form.ModuleText.{ModuleText}

abbrev pub module_seen : ModuleText → WrittenModule
module_seen text = record { name = chars text.name.now; tree = text.tree.now }
