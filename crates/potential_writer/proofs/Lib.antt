pub mod WorkedValues
mod SideTexts
